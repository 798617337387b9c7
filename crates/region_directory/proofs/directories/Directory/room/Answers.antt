use Rattle.std.proofs.Common.{◌≡◌, ◌↔◌, List, ap, subst, sym, ◌∙◌, arith}
use Rattle.region_directory.specs.Directory.{DirectoryView}
use Rattle.region_directory.specs.Room.{room_of, MustWait}
use Rattle.region_directory.specs.declared.entries.Entry.{Entry}
use Rattle.region_directory.specs.declared.rooms.Room.{Room}
use Rattle.region_directory.specs.declared.rooms.Room.TheVariants.{Wait}
use Rattle.region_directory.proofs.RoomLemmas.{room-waits}
use Rattle.region_directory.proofs.directories.Directory.room.Goals as goal

pub room_among-requires : goal.room_among-requires
room_among-requires c =
    omega (arith, c.self.invariant.1.slots_bound, c.self.invariant.1.fits, c.as_slice.ensures.len)

pub returns-clause-waits : goal.returns-clause-waits
returns-clause-waits c =
    let made : List Entry → DirectoryView = λ (es : List Entry). record { slots = c.self.inside.slots; most = c.self.inside.most; entries = es } in
    let room : c.room_among.result ≡ room_of c.args.self.now c.args.fetching.now =
    c.room_among.ensures ∙ ap (λ (es : List Entry). room_of (made es) c.args.fetching.now) c.as_slice.ensures.value ∙ ap (λ (v : DirectoryView). room_of v c.args.fetching.now) c.self.view_is in
    subst (λ (r : Room). (r ≡ Wait) ↔ MustWait c.args.self.now c.args.fetching.now) (sym room) (room-waits c.args.self.now c.args.fetching.now)
