-- Every move, and every run of them.
use Rattle.std.proofs.Common.{◌≡◌, ℕ, List, [], ◌∷◌, Option, Some, None, refl, subst, sym}
use Rattle.mind_base.specs.Page.{PageView}
use Rattle.mind_base.specs.declared.commands.Perm.{Perm}
use Rattle.coherence.specs.Facts.{IsCoherent, ArePlaced}
use Rattle.coherence.specs.Moves.{Move, May, moved, Asks, Stores, GivesUp, Lowers, TakesFill, TakesDeny, AnswersInv, AnswersLower, HearsGet, HearsBack, HearsAck, HearsImage, Refuses, Enters, Drops, GrantsIt, Begins, ReshapesTo, Reads, Writes}
use Rattle.coherence.specs.Runs.{Run, start}
use Rattle.coherence.specs.World.{World}
use Rattle.coherence.proofs.BladeMoves.{asks, stores, gives_up, lowers, takes_fill, takes_deny, answers_inv, answers_lower}
use Rattle.coherence.proofs.MemoryReads.{reads}
use Rattle.coherence.proofs.MemoryWrites.{writes}
use Rattle.coherence.proofs.SwitchAck.{hears_ack}
use Rattle.coherence.proofs.SwitchBack.{hears_back}
use Rattle.coherence.proofs.SwitchBegin.{begins}
use Rattle.coherence.proofs.SwitchEnter.{enters, drops}
use Rattle.coherence.proofs.SwitchGet.{hears_get}
use Rattle.coherence.proofs.SwitchGrant.{grants_it}
use Rattle.coherence.proofs.SwitchImage.{hears_image}
use Rattle.coherence.proofs.SwitchRefuse.{refuses}
use Rattle.coherence.proofs.SwitchReshape.{reshapes}

pub move_keeps : (w : World) (move : Move) → IsCoherent w → May w move → IsCoherent (moved w move)
move_keeps w (Asks blade page write) h m = asks w blade page write h m
move_keeps w (Stores blade page frame image) h m = stores w blade page frame image h m
move_keeps w (GivesUp blade page frame) h m = gives_up w blade page frame h m
move_keeps w (Lowers blade page frame) h m = lowers w blade page frame h m
move_keeps w (TakesFill blade page perm writable image behind) h m = takes_fill w blade page perm writable image behind h m
move_keeps w (TakesDeny blade page behind) h m = takes_deny w blade page behind h m
move_keeps w (AnswersInv blade number range asked count behind) h m = answers_inv w blade number range asked count behind h m
move_keeps w (AnswersLower blade number range asked count behind) h m = answers_lower w blade number range asked count behind h m
move_keeps w (HearsGet blade page write behind) h m = hears_get w blade page write behind h m
move_keeps w (HearsBack blade page image place behind) h m = hears_back w blade page image place behind h m
move_keeps w (HearsAck blade number count behind) h m = hears_ack w blade number count behind h m
move_keeps w (HearsImage memory blade page wanted image behind) h m = hears_image w memory blade page wanted image behind h m
move_keeps w (Refuses blade page write) h m = refuses w blade page write h m
move_keeps w (Enters range) h m = enters w range h m
move_keeps w (Drops range) h m = drops w range h m
move_keeps w (GrantsIt blade page write place region state) h m = grants_it w blade page write place region state h m
move_keeps w (Begins region busy message) h m = begins w region busy message h m
move_keeps w (ReshapesTo regions) h m = reshapes w regions h m
move_keeps w (Reads memory phys blade page behind) h m = reads w memory phys blade page behind h m
move_keeps w (Writes memory phys image behind) h m = writes w memory phys image behind h m

pub run_keeps : (first last : World) (moves : List Move) → IsCoherent first → Run first moves last → IsCoherent last
unfolding Run
run_keeps first last [] h e = subst IsCoherent (sym e) h
run_keeps first last (move ∷ moves) h r = run_keeps (moved first move) last moves (move_keeps first move h r.0) r.1

-- nothing is not something
nothing : {X : Type 0} {x : X} {P : Type 0} → None ≡ Some x → P
nothing {X = X} e = elim (subst is_nothing e tt) [ ]
  where
    is_nothing : Option X → Type 0
    is_nothing None = Unit {0}
    is_nothing (Some y) = ⊥

pub starts : (places : PageView → Option (ℕ × ℕ)) (perms : PageView → Perm) → ArePlaced (start places perms) → IsCoherent (start places perms)
starts places perms placed = record {
  frames = λ blade page frame e. nothing e;
  ups = λ blade. tt;
  downs = λ blade. tt;
  answered = λ blade page. refl;
  wanted = λ blade page wanted e. nothing e;
  fetched = λ blade page place e. refl;
  called = λ blade number page busy e. nothing e;
  fetches = λ blade page wanted e. nothing e;
  numbered = λ page region busy e. nothing e;
  blocks = λ page region e. nothing e;
  targets = λ page region busy e. nothing e;
  tos = λ memory. tt;
  written = λ page place e h. refl;
  froms = λ memory. tt;
  placed = placed;
}
