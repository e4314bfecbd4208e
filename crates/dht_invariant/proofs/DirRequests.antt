-- A request that sets a layout, or makes or drops a copy of
-- a directory, keeps the clauses, however it was answered.
use Rattle.std.proofs.Common.{◌<◌, inl}
use Rattle.dht_types.specs.declared.identifiers.BrickNo.{BrickNo}
use Rattle.dht_brick.specs.declared.replies.Reply.{Reply}
use Rattle.dht_brick.specs.declared.requests.NameRequest.TheVariants.{SetLayout, MakeDir, DropDir}
use Rattle.dht_brick.specs.declared.requests.Request.{Request}
use Rattle.dht_brick.specs.declared.requests.Request.TheVariants.{OnNames}
use Rattle.dht_section.specs.Moves.{Guarantee, outcome_of}
use Rattle.dht_section.specs.Permits.{May}
use Rattle.dht_section.specs.Scene.{Scene, Sound}
use Rattle.dht_invariant.specs.Laws.{IsOfDir, Preserves, Carries, DirectoriesKeep}
use Rattle.dht_invariant.specs.Transition.{OnlyMine}
use Rattle.dht_invariant.proofs.DropDirKeeps.{drop_dir_keeps}
use Rattle.dht_invariant.proofs.LayoutKeeps.{layouts_keep}
use Rattle.dht_invariant.proofs.MakeDirKeeps.{make_dir_keeps}
use Rattle.dht_invariant.proofs.ServedLaws.{WasDone, WasNot, came}
use Rattle.dht_invariant.proofs.UndoneKeeps.{undone_leaves}

pub preserves_carries : (s t : Scene) → Preserves s t → Carries s t
preserves_carries s t q = record { things = q.things; early = q.early; used = λ g u. inl (q.used g u); touches = q.touches }

by_request :
    (s t : Scene) (b : BrickNo) (q : Request) (r : Reply) → IsOfDir q
    → (m : Guarantee s (record { brick = b; request = q }) r t) → Sound s → b.0 < s.disk.count
    → May s b.0 q → OnlyMine s t → Carries s t
by_request s t b (OnNames (SetLayout d value)) r is m sound there may h = preserves_carries s t (layouts_keep s t b d value r there (may.1.0, may.1.1) m sound)
by_request s t b (OnNames (MakeDir d n g depth value)) r is m sound there may h = elim (came b.0 (OnNames (MakeDir d n g depth value)) (outcome_of s (record { brick = b; request = OnNames (MakeDir d n g depth value) })) (s.disk.brick b.0) m.real m.new m.served) [
  | WasDone gives real done ↦ make_dir_keeps s t b d n g depth value r m sound there may.1 gives real done h.client h.small
  | WasNot step same ↦ preserves_carries s t (undone_leaves s t (record { brick = b; request = OnNames (MakeDir d n g depth value) }) r m sound step same)
]
by_request s t b (OnNames (DropDir d n g)) r is m sound there may h = preserves_carries s t (elim (came b.0 (OnNames (DropDir d n g)) (outcome_of s (record { brick = b; request = OnNames (DropDir d n g) })) (s.disk.brick b.0) m.real m.new m.served) [
  | WasDone gives real done ↦ drop_dir_keeps s t b d n g r m sound there may.1 gives real done
  | WasNot step same ↦ undone_leaves s t (record { brick = b; request = OnNames (DropDir d n g) }) r m sound step same
])
by_request s t b q r is m sound there may h = absurd is

pub directories_keep : DirectoriesKeep
directories_keep s t a r is m sound p h = by_request s t a.brick a.request r is m sound p.there p.may h
