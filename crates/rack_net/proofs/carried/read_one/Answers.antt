use Rattle.std.proofs.Common.{◌≡◌, sym, ◌∙◌}
use Rattle.rack_net.proofs.Texts.{read-message}
use Rattle.rack_net.proofs.carried.read_one.Goals as goal

pub returns-in-Ok : goal.returns-in-Ok
returns-in-Ok c =
    let given = c.in-Ok.ensures.only c.requires.message c.requires.formed c.requires.spelled in
    let same : c.requires.message ≡ c.in-Ok.msg = cc in
    sym (read-message c.args.bytes.now c.requires ∙ same)
