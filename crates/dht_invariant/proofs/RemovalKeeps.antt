-- A request that takes a name away, seals a file or drops
-- its record keeps the clauses, however it was answered.
use Rattle.std.proofs.Common.{◌<◌}
use Rattle.dht_types.specs.declared.identifiers.BrickNo.{BrickNo}
use Rattle.dht_brick.specs.declared.replies.Reply.{Reply}
use Rattle.dht_brick.specs.declared.requests.FileRequest.TheVariants.{Drop}
use Rattle.dht_brick.specs.declared.requests.NameRequest.TheVariants.{Unlink}
use Rattle.dht_brick.specs.declared.requests.Request.{Request}
use Rattle.dht_brick.specs.declared.requests.Request.TheVariants.{Seal, OnNames, OnFile}
use Rattle.dht_section.specs.Moves.{Guarantee, outcome_of}
use Rattle.dht_section.specs.Permits.{May}
use Rattle.dht_section.specs.Scene.{Scene, Sound}
use Rattle.dht_invariant.specs.Laws.{IsRemoval, Preserves, RemovalsKeep}
use Rattle.dht_invariant.proofs.DropKeeps.{drop_leaves}
use Rattle.dht_invariant.proofs.SealKeeps.{seal_leaves}
use Rattle.dht_invariant.proofs.ServedLaws.{WasDone, WasNot, came}
use Rattle.dht_invariant.proofs.UndoneKeeps.{undone_leaves}
use Rattle.dht_invariant.proofs.UnlinkKeeps.{unlink_leaves}

by_request :
    (s t : Scene) (b : BrickNo) (q : Request) (r : Reply) → IsRemoval q → b.0 < s.disk.count
    → May s b.0 q → (m : Guarantee s (record { brick = b; request = q }) r t) → Sound s
    → Preserves s t
by_request s t b (OnNames (Unlink d n f)) r is there may m sound = elim (came b.0 (OnNames (Unlink d n f)) (outcome_of s (record { brick = b; request = OnNames (Unlink d n f) })) (s.disk.brick b.0) m.real m.new m.served) [
  | WasDone given real done ↦ unlink_leaves s t b d n f r m sound there may.1 given real done
  | WasNot step same ↦ undone_leaves s t (record { brick = b; request = OnNames (Unlink d n f) }) r m sound step same
]
by_request s t b (OnFile (Drop f)) r is there may m sound = elim (came b.0 (OnFile (Drop f)) (outcome_of s (record { brick = b; request = OnFile (Drop f) })) (s.disk.brick b.0) m.real m.new m.served) [
  | WasDone given real done ↦ drop_leaves s t b f r m sound there may.1.0 may.1.1 given real done
  | WasNot step same ↦ undone_leaves s t (record { brick = b; request = OnFile (Drop f) }) r m sound step same
]
by_request s t b (Seal f) r is there may m sound = elim (came b.0 (Seal f) (outcome_of s (record { brick = b; request = Seal f })) (s.disk.brick b.0) m.real m.new m.served) [
  | WasDone given real done ↦ seal_leaves s t b f r m sound may.0 may.1 given real done
  | WasNot step same ↦ undone_leaves s t (record { brick = b; request = Seal f }) r m sound step same
]
by_request s t b q r is there may m sound = absurd is

pub removals_keep : RemovalsKeep
removals_keep s t a r is p m sound = by_request s t a.brick a.request r is p.there p.may m sound
