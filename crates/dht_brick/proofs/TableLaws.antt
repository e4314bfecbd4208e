-- The rows of requests about a file's record are those of the table.
use Rattle.std.proofs.Common.{◌≡◌, ℕ, Bool, true, false, cond, List, refl, ap}
use Rattle.std.specs.Prelude.{Option, Some, None, ◌==◌, ◌&&◌, not}
use Rattle.dht_types.specs.Gfid.{Entry}
use Rattle.dht_types.specs.declared.identifiers.Gfid.{Gfid}
use Rattle.dht_types.specs.declared.identifiers.BrickNo.{BrickNo}
use Rattle.dht_types.specs.declared.stored.DirRecord.{DirRecord}
use Rattle.dht_types.specs.declared.stored.Record.{Record}
use Rattle.dht_types.specs.declared.stored.Record.TheVariants.{Live, Moving, Standby as Copied, Forward}
use Rattle.dht_guard.specs.FileTable.{file_cell_of}
use Rattle.dht_guard.specs.declared.records.State.{State}
use Rattle.dht_guard.specs.declared.records.State.TheVariants as state
use Rattle.std.specs.FinMap.{get, insert}
use Rattle.dht_brick.specs.Contents.{Store, Files, dir, slot, file}
use Rattle.dht_brick.specs.FileRows.{guarded, record_row, state_refusal, copy_made, takes_copy, is_same_copy, copy_name}
use Rattle.dht_brick.specs.Kinds.{row_of}
use Rattle.dht_brick.specs.Named.{file_of}
use Rattle.dht_brick.specs.Links.{links, is_marked}
use Rattle.dht_brick.specs.Outcome.{Outcome, Refuse, in_dir}
use Rattle.dht_brick.specs.Parts.{state_of, slot_shown, is_plain, is_copy}
use Rattle.dht_brick.specs.Table.{left_in, Leaves, Obeys, LeavesAsTheTable, ObeysTheTable}
use Rattle.dht_brick.specs.declared.replies.Why.TheVariants as why
use Rattle.dht_brick.specs.declared.requests.FileRequest.{FileRequest}
use Rattle.dht_brick.specs.declared.requests.FileRequest.TheVariants.{Read, Write, LockedWrite, Truncate, LockedTruncate, Stat, Mark, Unmark, MakeStandby, StandbyWrite, CopyWrite, ClearDirty, DropStandby, Demote, Promote, Drop}
use Rattle.dht_brick.proofs.MapLemmas.{get-insert_here, get-remove_here}
use Rattle.dht_brick.proofs.TableLemmas.{gfid_total}

-- a record that is put is in its state
saved_leaves :
    (files : Files) (f : Gfid) (r : Record)
    → state_of (get (insert files f r) f) ≡ state_of (Some r)
saved_leaves files f r = ap state_of (get-insert_here gfid_total files f r)

-- a further condition refuses
if_leaves :
    (st : State) (f : Gfid) (b : Bool) (x y : Outcome Store) → Leaves st f x → Leaves st f y
    → Leaves st f (cond b x y)
if_leaves st f true x y p q = p
if_leaves st f false x y p q = q

made_leaves :
    (s : Store) (f : Gfid) (e : Entry) (source : BrickNo) (hop : ℕ) (r : Option Record)
    → Leaves state.Standby f (copy_made s f e source hop r)
made_leaves s f e source hop None = saved_leaves s.files f _
made_leaves s f e source hop (Some (Live h b)) = saved_leaves s.files f _
made_leaves s f e source hop (Some (Moving h d b)) = saved_leaves s.files f _
made_leaves s f e source hop (Some (Copied c)) = if_leaves state.Standby f (is_same_copy c e source hop) _ _ (saved_leaves s.files f _) tt
made_leaves s f e source hop (Some (Forward h b)) = saved_leaves s.files f _

standby_leaves :
    (s : Store) (f : Gfid) (e : Entry) (source : BrickNo) (hop : ℕ) (r : Option Record)
    (d : Option DirRecord)
    → Leaves state.Standby f (in_dir d (λ x. cond (takes_copy f (slot s e)) (copy_made s f e source hop r) (Refuse (why.Slot (slot_shown (slot s e))))))
standby_leaves s f e source hop r None = tt
standby_leaves s f e source hop r (Some x) = if_leaves state.Standby f (takes_copy f (slot s e)) _ _ (made_leaves s f e source hop r) tt

row_leaves :
    (bricks : List (List ℕ)) (q : FileRequest) (s : Store) (r : Option Record)
    → file s (file_of q) ≡ r
    → Leaves (left_in (file_cell_of (row_of q) (state_of r)) (state_of r)) (file_of q) (guarded (file_cell_of (row_of q) (state_of r)) r (record_row bricks q s r))
row_leaves bricks (Read f offset size) s (Some (Live h b)) e = ap state_of e
row_leaves bricks (Read f offset size) s (Some (Moving h d b)) e = ap state_of e
row_leaves bricks (Read f offset size) s r e = tt
row_leaves bricks (Write f offset piece) s (Some (Live h b)) e = saved_leaves s.files f _
row_leaves bricks (Write f offset piece) s r e = tt
row_leaves bricks (LockedWrite f offset piece) s (Some (Live h b)) e = saved_leaves s.files f _
row_leaves bricks (LockedWrite f offset piece) s (Some (Moving h d b)) e = saved_leaves s.files f _
row_leaves bricks (LockedWrite f offset piece) s r e = tt
row_leaves bricks (Truncate f size) s (Some (Live h b)) e = saved_leaves s.files f _
row_leaves bricks (Truncate f size) s r e = tt
row_leaves bricks (LockedTruncate f size) s (Some (Live h b)) e = saved_leaves s.files f _
row_leaves bricks (LockedTruncate f size) s (Some (Moving h d b)) e = saved_leaves s.files f _
row_leaves bricks (LockedTruncate f size) s r e = tt
row_leaves bricks (Stat f) s (Some (Live h b)) e = ap state_of e
row_leaves bricks (Stat f) s (Some (Moving h d b)) e = ap state_of e
row_leaves bricks (Stat f) s r e = tt
row_leaves bricks (Mark f dest) s (Some (Live h b)) e = if_leaves state.Moving f ((links s.slots f == 1) && not (is_marked s.slots f)) _ _ (saved_leaves s.files f _) tt
row_leaves bricks (Mark f dest) s r e = tt
row_leaves bricks (Unmark f) s (Some (Moving h d b)) e = saved_leaves s.files f _
row_leaves bricks (Unmark f) s r e = tt
row_leaves bricks (MakeStandby f d n source hop) s None e = standby_leaves s f (d, n) source hop None (dir s d)
row_leaves bricks (MakeStandby f d n source hop) s (Some (Copied c)) e = standby_leaves s f (d, n) source hop (Some (Copied c)) (dir s d)
row_leaves bricks (MakeStandby f d n source hop) s (Some (Forward h b)) e = standby_leaves s f (d, n) source hop (Some (Forward h b)) (dir s d)
row_leaves bricks (MakeStandby f d n source hop) s r e = tt
row_leaves bricks (StandbyWrite f q) s (Some (Copied c)) e = if_leaves state.Standby f c.is_dirty _ _ tt (saved_leaves s.files f _)
row_leaves bricks (StandbyWrite f q) s r e = tt
row_leaves bricks (CopyWrite f offset piece) s (Some (Copied c)) e = if_leaves state.Standby f c.is_dirty _ _ tt (saved_leaves s.files f _)
row_leaves bricks (CopyWrite f offset piece) s r e = tt
row_leaves bricks (ClearDirty f) s (Some (Copied c)) e = saved_leaves s.files f _
row_leaves bricks (ClearDirty f) s r e = tt
row_leaves bricks (DropStandby f) s (Some (Copied c)) e = saved_leaves s.files f _
row_leaves bricks (DropStandby f) s r e = tt
row_leaves bricks (Demote f d n) s (Some (Moving h b x)) e = if_leaves state.Forward f (is_plain f (slot s (d, n)).main) _ _ (saved_leaves s.files f _) tt
row_leaves bricks (Demote f d n) s r e = tt
row_leaves bricks (Promote f hop) s (Some (Copied c)) e = if_leaves state.Live f ((hop == c.hop) && is_copy f (slot s (copy_name c)).standby) _ _ (saved_leaves s.files f _) tt
row_leaves bricks (Promote f hop) s r e = tt
row_leaves bricks (Drop f) s (Some (Live h b)) e = if_leaves state.Absent f (links s.slots f == 0) _ _ (ap state_of (get-remove_here gfid_total s.files f)) tt
row_leaves bricks (Drop f) s r e = tt

pub leaves_as_the_table : LeavesAsTheTable
leaves_as_the_table bricks q s = row_leaves bricks q s (file s (file_of q)) refl

row_obeys : (bricks : List (List ℕ)) (q : FileRequest) (s : Store) (r : Option Record)
    → Obeys (file_cell_of (row_of q) (state_of r)) s (state_refusal r) (guarded (file_cell_of (row_of q) (state_of r)) r (record_row bricks q s r))
row_obeys bricks (Read f offset size) s (Some (Live h b)) = (_, refl)
row_obeys bricks (Read f offset size) s (Some (Moving h d b)) = (_, refl)
row_obeys bricks (Read f offset size) s r = refl
row_obeys bricks (Write f offset piece) s (Some (Live h b)) = (_, (_, refl))
row_obeys bricks (Write f offset piece) s r = refl
row_obeys bricks (LockedWrite f offset piece) s (Some (Live h b)) = (_, (_, refl))
row_obeys bricks (LockedWrite f offset piece) s (Some (Moving h d b)) = (_, (_, refl))
row_obeys bricks (LockedWrite f offset piece) s r = refl
row_obeys bricks (Truncate f size) s (Some (Live h b)) = (_, (_, refl))
row_obeys bricks (Truncate f size) s r = refl
row_obeys bricks (LockedTruncate f size) s (Some (Live h b)) = (_, (_, refl))
row_obeys bricks (LockedTruncate f size) s (Some (Moving h d b)) = (_, (_, refl))
row_obeys bricks (LockedTruncate f size) s r = refl
row_obeys bricks (Stat f) s (Some (Live h b)) = (_, refl)
row_obeys bricks (Stat f) s (Some (Moving h d b)) = (_, refl)
row_obeys bricks (Stat f) s r = refl
row_obeys bricks (Mark f dest) s (Some (Live h b)) = tt
row_obeys bricks (Mark f dest) s r = refl
row_obeys bricks (Unmark f) s (Some (Moving h d b)) = (_, (_, refl))
row_obeys bricks (Unmark f) s r = refl
row_obeys bricks (MakeStandby f d n source hop) s (Some (Live h b)) = refl
row_obeys bricks (MakeStandby f d n source hop) s (Some (Moving h t b)) = refl
row_obeys bricks (MakeStandby f d n source hop) s r = tt
row_obeys bricks (StandbyWrite f q) s (Some (Copied c)) = tt
row_obeys bricks (StandbyWrite f q) s r = refl
row_obeys bricks (CopyWrite f offset piece) s (Some (Copied c)) = tt
row_obeys bricks (CopyWrite f offset piece) s r = refl
row_obeys bricks (ClearDirty f) s (Some (Copied c)) = (_, (_, refl))
row_obeys bricks (ClearDirty f) s r = refl
row_obeys bricks (DropStandby f) s (Some (Copied c)) = (_, (_, refl))
row_obeys bricks (DropStandby f) s r = refl
row_obeys bricks (Demote f d n) s (Some (Moving h b x)) = tt
row_obeys bricks (Demote f d n) s r = refl
row_obeys bricks (Promote f hop) s (Some (Copied c)) = tt
row_obeys bricks (Promote f hop) s r = refl
row_obeys bricks (Drop f) s (Some (Live h b)) = tt
row_obeys bricks (Drop f) s r = refl

pub obeys_the_table : ObeysTheTable
obeys_the_table bricks q s = row_obeys bricks q s (file s (file_of q))
