-- What a link gives to a blade leads the rack on by moves.
use Rattle.std.proofs.Common.{◌≡◌, ℕ, ◌==◌, Bool, true, false, ap, sym, refl, subst, List, [], ◌∷◌, ◌++◌, ◌∙◌}
use Rattle.std.specs.Prelude.{if◌then◌else◌}
use Rattle.std.proofs.lemmas.Bool.{eqb-true, eq-eqb}
use Rattle.mind_base.specs.Page.{PageView}
use Rattle.mind_base.specs.declared.events.Event.TheVariants.{Deliver}
use Rattle.mind_base.specs.declared.images.Image.{Image}
use Rattle.mind_base.specs.declared.links.LinkKind.{LinkKind}
use Rattle.mind_base.specs.declared.links.LinkKind.TheVariants.{Up, Down, To, From}
use Rattle.mind_base.specs.declared.links.LinkName.{LinkName}
use Rattle.mind_base.specs.declared.links.Side.{Side}
use Rattle.mind_base.specs.declared.notes.Note.{Note}
use Rattle.page_image.specs.PageImage.{PageImageView}
use Rattle.wire_msg.specs.declared.msgs.Msg.{Msg}
use Rattle.rack_net.specs.Net.{NetView, links_of, same_link, ChangesOnly}
use Rattle.coherence.specs.Facts.{IsCoherent}
use Rattle.coherence.specs.Runs.{Run}
use Rattle.coherence.specs.World.{World, put}
use Rattle.coherence.proofs.Callers.{run_keeps}
use Rattle.rack_core.specs.BladeMoves.{handing, AreBladesSound, BladesLead}
use Rattle.rack_core.specs.Events.{Hands, HandsAll, Leads}
use Rattle.rack_core.specs.Rack.{RackView, with_net}
use Rattle.rack_core.specs.Seen.{pending_on, seen}
use Rattle.rack_core.proofs.Moves.Blade.Handed.{blade_handed}
use Rattle.rack_core.proofs.Moves.Blade.Worlds.{no_move, run_append}

-- ---- messages one after another

after_first : (images : List Image) (w : World) (mid new : RackView) (c : ℕ) (rest : List Msg) → IsCoherent w
    → (first : BladesLead w (λ flat. handing c rest (seen mid flat)) mid)
    → ((flat : PageView → PageImageView) → IsCoherent (handing c rest (seen mid flat)) → AreBladesSound mid
    → BladesLead (handing c rest (seen mid flat)) (λ newer. handing c [] (seen new newer)) new)
    → BladesLead w (λ newer. handing c [] (seen new newer)) new
after_first images w mid new c rest safe first next =
    let reached = handing c rest (seen mid first.flat) in
    let later = next first.flat (run_keeps w reached first.moves safe first.run) first.sound in
    record {
      flat = later.flat;
      moves = first.moves ++ later.moves;
      run = run_append w reached (handing c [] (seen new later.flat)) first.moves later.moves first.run later.run;
      sound = later.sound;
    }

pub blade_hears_all : (images : List Image) (c : ℕ) (taken : List Msg) (old new : RackView) (flat : PageView → PageImageView) (noted : List Note)
    → IsCoherent (handing c taken (seen old flat)) → AreBladesSound old → HandsAll images (record { kind = Down; number = c }) taken old new noted
    → BladesLead (handing c taken (seen old flat)) (λ newer. handing c [] (seen new newer)) new
blade_hears_all images c [] old new flat noted safe all given = record {
  flat = flat;
  moves = [];
  run = no_move (handing c [] (seen old flat)) (handing c [] (seen new flat)) (ap (λ rack. handing c [] (seen rack flat)) given.0);
  sound = subst AreBladesSound (sym given.0) all;
}
blade_hears_all images c (message ∷ rest) old new flat noted safe all given =
    after_first images (handing c (message ∷ rest) (seen old flat)) given.0 new c rest safe
    (blade_handed images old given.0 flat c message rest given.1 safe all given.3).leads
    (λ newer coherent sound. blade_hears_all images c rest given.0 new newer given.2 coherent sound given.4)

-- ---- what the link gave

-- no other link has changed
pub other_link : (name : LinkName) (old new : NetView) → ChangesOnly name old new → (kind : LinkKind) (n : ℕ) → same_link name (record { kind = kind; number = n }) ≡ false
    → pending_on new kind n ≡ pending_on old kind n
other_link name old new only kind n e =
    ap (λ f. (f (record { kind = kind; number = n })).pending) only.others
    ∙ ap (λ b. (if b then links_of new name else links_of old (record { kind = kind; number = n })).pending) e

pub flip : (n c : ℕ) → (n == c) ≡ false → (c == n) ≡ false
flip n c e = by (c == n) refl where
  by : (b : Bool) → (c == n) ≡ b → b ≡ false
  by true f = let never : false ≡ true = sym e ∙ ap (λ m. m == c) (sym (eqb-true c n f)) ∙ eq-eqb c c refl in sym never
  by false f = refl

-- what was pending is what the link gave, and what is pending then
gave : (c : ℕ) (taken : List Msg) (side : Side) (k : ℕ) (old : RackView) (net : NetView) (flat : PageView → PageImageView)
    → Hands (links_of old.net (record { kind = Down; number = c })) side k taken (links_of net (record { kind = Down; number = c }))
    → ChangesOnly (record { kind = Down; number = c }) old.net net → seen old flat ≡ handing c taken (seen (with_net net old) flat)
gave c taken side k old net flat hands only = λ i. record (seen old flat) { ups = λ n. ups n i; downs = λ n. downs n i; tos = λ n. tos n i; froms = λ n. froms n i } where
  ups : (n : ℕ) → pending_on old.net Up n ≡ pending_on net Up n
  ups n = sym (other_link (record { kind = Down; number = c }) old.net net only Up n refl)

  tos : (n : ℕ) → pending_on old.net To n ≡ pending_on net To n
  tos n = sym (other_link (record { kind = Down; number = c }) old.net net only To n refl)

  froms : (n : ℕ) → pending_on old.net From n ≡ pending_on net From n
  froms n = sym (other_link (record { kind = Down; number = c }) old.net net only From n refl)

  downs : (n : ℕ) → pending_on old.net Down n ≡ put c (taken ++ pending_on net Down c) (pending_on net Down) n
  downs n = by (n == c) refl where
    by : (b : Bool) → (n == c) ≡ b → pending_on old.net Down n ≡ (if b then taken ++ pending_on net Down c else pending_on net Down n)
    by true e = ap (pending_on old.net Down) (eqb-true n c e) ∙ hands.fifo
    by false e = sym (other_link (record { kind = Down; number = c }) old.net net only Down n (flip n c e))

-- a link on which nothing waits to be handed over
nothing_waits : (c : ℕ) (w : World) → handing c [] w ≡ w
nothing_waits c w = λ i. record w { downs = λ n. same n i } where
  same : (n : ℕ) → put c (w.downs c) w.downs n ≡ w.downs n
  same n = by (n == c) refl where
    by : (b : Bool) → (n == c) ≡ b → (if b then w.downs c else w.downs n) ≡ w.downs n
    by true e = ap w.downs (sym (eqb-true n c e))
    by false e = refl

pub deliver_leads : (images : List Image) (c : ℕ) (side : Side) (k : ℕ) (old new : RackView) (flat : PageView → PageImageView) (noted : List Note)
    → IsCoherent (seen old flat) → AreBladesSound old → Leads images (Deliver (record { kind = Down; number = c }) side k) old new noted
    → BladesLead (seen old flat) (seen new) new
deliver_leads images c side k old new flat noted safe all given =
    let before = gave c given.taken side k old given.net flat given.gives given.only in
    let heard = blade_hears_all images c given.taken (with_net given.net old) new flat noted (subst IsCoherent before safe) all given.handed in
    record {
      flat = heard.flat;
      moves = heard.moves;
      run = subst (λ v. Run v heard.moves (seen new heard.flat)) (sym before) (subst (Run (handing c given.taken (seen (with_net given.net old) flat)) heard.moves) (nothing_waits c (seen new heard.flat)) heard.run);
      sound = heard.sound;
    }
