use Rattle.std.proofs.Common.{ℕ, List, [], Bor, get_or, map, ap, sym, ◌∙◌}
use Rattle.std.proofs.Math.ListN.{get_or-map}
use Rattle.rv32_text.proofs.names.name_at.Goals as goal

pub returns : goal.returns
returns c =
    let nothing : Bor (List ℕ) = record { ref_ptr = (0, 0); now = [] } in
    sym (get_or-map (λ (b : Bor (List ℕ)). b.now) c.args.names.now c.from.result nothing)
    ∙ ap (λ (n : ℕ). get_or (map (λ (b : Bor (List ℕ)). b.now) c.args.names.now) n []) c.from.ensures
