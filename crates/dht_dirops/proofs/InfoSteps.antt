-- A brick is asked what it has of a directory. That changes nothing.
use Rattle.std.proofs.Common.{◌≡◌, ℕ, refl, ◌∙◌, ap}
use Rattle.std.specs.Prelude.{Option, Some, None, []}
use Rattle.dht_types.specs.declared.identifiers.Gfid.{Gfid}
use Rattle.dht_types.specs.declared.stored.DirRecord.{DirRecord}
use Rattle.dht_brick.specs.Contents.{Contents}
use Rattle.dht_brick.specs.Looks.{info_of}
use Rattle.dht_brick.specs.Outcome.{Do, in_dir, left_by, within}
use Rattle.dht_brick.specs.Rows.{with_store}
use Rattle.dht_brick.specs.declared.replies.Given.TheVariants as given
use Rattle.dht_brick.specs.declared.replies.Reply.{Reply}
use Rattle.dht_section.proofs.SceneLaws.{no_step, row_moved}
use Rattle.dht_section.proofs.UnservedLaws.{nothing_done, unchanged_is_rely}
use Rattle.dht_section.specs.Disk.{dir_at}
use Rattle.dht_section.specs.Moves.{Guarantee}
use Rattle.dht_section.specs.Rely.{Rely}
use Rattle.dht_section.specs.Replies.{fault_of}
use Rattle.dht_section.specs.Scene.{Scene}
use Rattle.dht_heal.proofs.HealOneRequests.{info_some}
use Rattle.dht_dirops.specs.Mkdir.{depth_shown, info_ask}

left_same :
    (o : Option DirRecord) (g : Gfid) (c : Contents)
    → left_by
    (within (with_store c) (in_dir o (λ y. Do (given.Dirinfo (info_of c.store g y)) c.store)))
    c
    ≡ c
left_same None g c = refl
left_same (Some y) g c = refl

-- so what is known stays
pub info_rely :
    (g : Gfid) (b : ℕ) (s t : Scene) (r : Reply) → fault_of r ≡ None
    → Guarantee s (info_ask g b) r t → Rely s t
info_rely g b s t r z m =
    unchanged_is_rely s t (nothing_done s t (info_ask g b) r z m ((row_moved s t (info_ask g b) r m z).1 ∙ left_same (dir_at s.disk b g) g (s.disk.brick b)) (no_step b (info_ask g b).request m.real tt))

-- a brick that has a copy shows how deep it is
pub depth_there :
    (g : Gfid) (b : ℕ) (y : DirRecord) (s t : Scene) (r : Reply) → dir_at s.disk b g ≡ Some y
    → fault_of r ≡ None → Guarantee s (info_ask g b) r t → depth_shown r ≡ Some y.depth
depth_there g b y s t r e z m = ap depth_shown (info_some (record { directory = g; bricks = 0; plan = [] }) (record { 0 = b }) y s t r e z m)
