-- What a node sends is, on each link, what was pending and then what goes onto that link.
use Rattle.std.proofs.Common.{◌≡◌, refl, sym, ◌∙◌, ap, subst, ℕ, Bool, true, false, ◌==◌, List, [], ◌∷◌, ◌++◌, append-nil, eq-eqb, append_assoc, ◌⊎◌, inl, inr}
use Rattle.std.specs.Prelude.{if◌then◌else◌}
use Rattle.std.proofs.lemmas.Bool.{false≢true, and_from}
use Rattle.mind_base.specs.declared.links.LinkKind.{LinkKind}
use Rattle.mind_base.specs.declared.links.LinkName.{LinkName}
use Rattle.wire_msg.specs.declared.msgs.Msg.{Msg}
use Rattle.rack_net.specs.Net.{NetView, links_of, same_link, kind_number}
use Rattle.rack_net.proofs.Callers.{same-or-not}
use Rattle.rack_core.specs.Events.{SendsOn, SendsAll}
use Rattle.rack_core.specs.Seen.{pending_on, sent_on}

pub same_link-true : (a b : LinkName) → same_link a b ≡ true → a ≡ b
same_link-true a b e = by (same-or-not a b) where
  by : ((same_link a b ≡ true) × (a ≡ b)) ⊎ ((same_link a b ≡ false) × (a ≡ b → ⊥)) → a ≡ b
  by (inl same) = same.1
  by (inr other) = absurd (false≢true (sym other.0 ∙ e))

pub same_link-refl : (a : LinkName) → same_link a a ≡ true
same_link-refl a = and_from (kind_number a.kind == kind_number a.kind) (a.number == a.number) (eq-eqb (kind_number a.kind) (kind_number a.kind) refl) (eq-eqb a.number a.number refl)

other_link : (a b : LinkName) → same_link a b ≡ false → same_link b a ≡ false
other_link a b e = by (same_link b a) refl where
  by : (t : Bool) → same_link b a ≡ t → same_link b a ≡ false
  by false f = f
  by true f = absurd (false≢true (sym e ∙ subst (λ c. same_link a c ≡ true) (sym (same_link-true b a f)) (same_link-refl a)))

-- one message
sends_one : (name other : LinkName) (message : Msg) (old new : NetView) → SendsOn other message old new
    → (links_of new name).pending ≡ (links_of old name).pending ++ (if same_link name other then message ∷ [] else [])
sends_one name other message old new sends = by (same_link name other) refl where
  by : (t : Bool) → same_link name other ≡ t → (links_of new name).pending ≡ (links_of old name).pending ++ (if t then message ∷ [] else [])
  by true e = subst (λ n. (links_of new n).pending ≡ (links_of old n).pending ++ message ∷ []) (sym (same_link-true name other e)) sends.0.fifo
  by false e =
      ap (λ f. (f name).pending) sends.1.others
      ∙ ap (λ t. (if t then links_of new other else links_of old name).pending) (other_link name other e)
      ∙ sym (append-nil (links_of old name).pending)

joined : (t : Bool) (message : Msg) (rest : List Msg) → (if t then message ∷ [] else []) ++ rest ≡ (if t then message ∷ rest else rest)
joined true message rest = refl
joined false message rest = refl

-- all of them
pub sends_all : (kind : LinkKind) (number : ℕ) (sent : List (LinkName × Msg)) (old new : NetView) → SendsAll sent old new
    → pending_on new kind number ≡ pending_on old kind number ++ sent_on kind number sent
sends_all kind number [] old new sends = ap (λ net. pending_on net kind number) sends ∙ sym (append-nil (pending_on old kind number))
sends_all kind number (m ∷ sent) old new sends =
    let name : LinkName = record { kind = kind; number = number } in
    let mid = sends.0 in
    sends_all kind number sent mid new sends.2
    ∙ ap (λ s. s ++ sent_on kind number sent) (sends_one name m.0 m.1 old mid sends.1)
    ∙ append_assoc (pending_on old kind number) (if same_link name m.0 then m.1 ∷ [] else []) (sent_on kind number sent)
    ∙ ap (λ s. pending_on old kind number ++ s) (joined (same_link name m.0) m.1 (sent_on kind number sent))
