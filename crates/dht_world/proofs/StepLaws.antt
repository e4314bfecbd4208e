-- What requests and their replies come to: which of them are a step of
-- the tree, which wait, and when an unlock or a lock is carried out.
use Rattle.std.proofs.Common.{◌≡◌, ◌≢◌, ◌≤◌, ◌↔◌, ◌⊎◌, ℕ, zero, suc, Bool, true, false, List, ◌∷◌, refl, sym, ap, ◌∙◌, subst, inl, inr, length, arith}
use Rattle.std.specs.Prelude.{Option, Some, None, not, ◌&&◌, ◌==◌, nat_eq, if◌then◌else◌}
use Rattle.dht_types.specs.History.{slot_of, is_change, is_dir_change, IsAtHome, IsOf}
use Rattle.dht_types.specs.declared.calls.TreeStep.{TreeStep}
use Rattle.dht_types.specs.declared.calls.TreeStep.TheVariants.{AddFile, AddDir, RemoveFile, RemoveDir}
use Rattle.dht_types.specs.declared.identifiers.CallNo.{CallNo}
use Rattle.dht_types.specs.declared.identifiers.ClientNo.{ClientNo}
use Rattle.dht_types.specs.declared.lines.ReplyKind.{ReplyKind}
use Rattle.dht_types.specs.declared.lines.ReplyKind.TheVariants as kind
use Rattle.dht_types.specs.declared.lines.RequestKind.TheVariants as request
use Rattle.dht_types.specs.declared.locks.Key.{Key}
use Rattle.dht_types.specs.declared.locks.Mode.{Mode}
use Rattle.dht_types.specs.declared.stored.DirRecord.{DirRecord}
use Rattle.dht_types.specs.declared.stored.Record.{Record}
use Rattle.dht_types.specs.declared.stored.Record.TheVariants.{Live}
use Rattle.dht_types.specs.declared.stored.Slot.{Slot}
use Rattle.dht_types.specs.declared.identifiers.Gfid.{Gfid}
use Rattle.dht_types.proofs.PutLaws.{exact_nat}
use Rattle.dht_types.specs.Gfid.{Entry, home}
use Rattle.dht_types.specs.Tree.{IsDir}
use Rattle.dht_brick.specs.Bricks.{ServesOrFails, is_unreachable}
use Rattle.dht_brick.specs.Contents.{Contents, Store, Opens, Locks, dir, slot, file}
use Rattle.dht_brick.specs.FileRows.{file_row}
use Rattle.dht_brick.specs.Kinds.{kind_of, name_kind, file_kind, reply_kind}
use Rattle.dht_brick.specs.Links.{is_occupied, links}
use Rattle.dht_brick.specs.LockRows.{lowest, first_of, keeps_out, hold_excludes, awaited, unless_awaited, held}
use Rattle.dht_brick.specs.Memory.{NeverTakesMemory}
use Rattle.dht_brick.specs.NameRows.{name_row, on_slot, slot_row, slot_change, if_empty}
use Rattle.dht_brick.specs.Named.{named, name_named}
use Rattle.dht_brick.specs.Outcome.{Outcome, Do, Refuse, Await, in_dir, within}
use Rattle.dht_brick.specs.Parts.{without_file}
use Rattle.dht_brick.specs.OpenRows.{seal_row, registrations, sealed}
use Rattle.dht_brick.specs.Rows.{row, with_store, with_opens, with_locks}
use Rattle.dht_brick.specs.declared.replies.Given.TheVariants as given
use Rattle.dht_brick.specs.declared.replies.Why.TheVariants as why
use Rattle.dht_brick.specs.declared.replies.Reply.{Reply}
use Rattle.dht_brick.specs.declared.replies.Reply.TheVariants.{Ok as Carried, Refused as Declined, Wait, Down, Failed, NoMemory}
use Rattle.dht_brick.specs.declared.requests.FileRequest.{FileRequest}
use Rattle.dht_brick.specs.declared.requests.FileRequest.TheVariants.{Read, Drop}
use Rattle.dht_brick.specs.declared.requests.NameRequest.{NameRequest}
use Rattle.dht_brick.specs.declared.requests.NameRequest.TheVariants.{Look, Page, Dirinfo, SetLayout, MakeDir, DropDir, Create, Unlink, Orphans}
use Rattle.dht_brick.specs.declared.requests.Request.{Request}
use Rattle.dht_brick.specs.declared.requests.Request.TheVariants.{Lock, Unlock, Seal, OnNames, OnFile}
use Rattle.dht_brick.proofs.LockLaws.{free_locks_are_granted}
use Rattle.dht_section.specs.Moves.{IsUnlock, at_home, step_of}
use Rattle.dht_section.specs.Permits.{Permitted, May, Changes}
use Rattle.dht_section.specs.Scene.{Scene, Wants, WantsAll}
use Rattle.dht_section.specs.Shapes.{node_of}
use Rattle.dht_section.specs.Stages.{is_wait}
use Rattle.dht_section.specs.declared.machine.Ask.{Ask}
use Rattle.dht_world.specs.Lines.{tree_lines, step_line, request_lines}

-- ---- which lines there are

pub lines_are :
    (k : CallNo) (c : ClientNo) (a : Ask) (r : Reply) → is_wait r ≡ false
    → request_lines k c a r ≡ step_line k c a r ∷ tree_lines k (step_of a.brick.0 a.request r)
lines_are k c a (Wait h) e = absurd (let z : true ≡ false = e in cc)
lines_are k c a r e = refl

pub lines_there :
    (k : CallNo) (c : ClientNo) (a : Ask) (r : Reply) → 1 ≤ length (request_lines k c a r)
lines_there k c a (Wait h) = omega arith
lines_there k c a r = omega arith

-- no request about a file changes the tree so far
file_changes :
    (q : FileRequest) (r : ReplyKind)
    → (is_change (file_kind q) r ≡ false) × (is_dir_change (file_kind q) r ≡ false)
file_changes (Read f offset size) r = (refl, refl)
file_changes q r = (refl, refl)

-- the line of a request that did no step demands no tree line
pub none_is :
    (b : ℕ) (q : Request) (r : Reply) → step_of b q r ≡ None
    → is_change (kind_of q) (reply_kind r) ≡ false
none_is b (OnNames (Create d n f)) (Carried g) e = absurd (let z : Some (AddFile d n f) ≡ None = e in cc)
none_is b (OnNames (Create d n f)) r e = refl
none_is b (OnNames (Unlink d n f)) (Carried g) e = absurd (let z : Some (RemoveFile d n) ≡ None = e in cc)
none_is b (OnNames (Unlink d n f)) r e = refl
none_is b (OnFile q) r e = (file_changes q _).0
none_is b q r e = refl

-- a step at the home of its directory
home_is : (b : ℕ) (g : Gfid) (y x : TreeStep) → at_home b g y ≡ Some x → (b ≡ home g) × (y ≡ x)
home_is b g y x e = by (nat_eq b (home g)) refl e
  where
    by : (v : Bool) → nat_eq b (home g) ≡ v → (if v then Some y else None) ≡ Some x → (b ≡ home g) × (y ≡ x)
    by true q k = ((exact_nat b (home g)).0 q, (let z : Some y ≡ Some x = k in cc))
    by false q k = absurd (let z : None ≡ Some x = k in cc)

-- what is known of a step that a request did: it is of the request's kind, and changes the slot
-- that the request names; and its tree line must stand under the request's line, or it may
pub record IsStepOf (q : Request) (r : Reply) (x : TreeStep) : Type 0 where
  pub kind : IsOf (kind_of q) x
  pub slot : slot_of x ≡ named q
  pub due : ((is_change (kind_of q) (reply_kind r) ≡ true) × (is_dir_change (kind_of q) (reply_kind r) ≡ false))
      ⊎ ((is_change (kind_of q) (reply_kind r) ≡ false) × (is_dir_change (kind_of q) (reply_kind r) ≡ true))

pub of_step :
    (b : ℕ) (q : Request) (r : Reply) (x : TreeStep) → step_of b q r ≡ Some x → IsStepOf q r x
of_step b (OnNames (Create d n f)) (Carried g) x e =
    let w : AddFile d n f ≡ x = (let z : Some (AddFile d n f) ≡ Some x = e in cc) in
    subst (IsStepOf (OnNames (Create d n f)) (Carried g)) w (record { kind = tt; slot = refl; due = inl (refl, refl) })
of_step b (OnNames (MakeDir d n h depth value)) (Carried g) x e =
    subst (IsStepOf (OnNames (MakeDir d n h depth value)) (Carried g)) (home_is b h (AddDir d n h) x e).1 (record { kind = tt; slot = refl; due = inr (refl, refl) })
of_step b (OnNames (Unlink d n f)) (Carried g) x e =
    let w : RemoveFile d n ≡ x = (let z : Some (RemoveFile d n) ≡ Some x = e in cc) in
    subst (IsStepOf (OnNames (Unlink d n f)) (Carried g)) w (record { kind = tt; slot = refl; due = inl (refl, refl) })
of_step b (OnNames (DropDir d n h)) (Carried g) x e =
    subst (IsStepOf (OnNames (DropDir d n h)) (Carried g)) (home_is b h (RemoveDir d n) x e).1 (record { kind = tt; slot = refl; due = inr (refl, refl) })
of_step b q (Carried g) x e = absurd (let z : None ≡ Some x = e in cc)
of_step b q r x e = absurd (let z : None ≡ Some x = e in cc)

may_want :
    (s : Scene) (b : ℕ) (q : Request) (r : Reply) (x : TreeStep) → May s b q
    → step_of b q r ≡ Some x → Wants s x
may_want s b (OnNames (Create d n f)) (Carried g) x m e = subst (WantsAll s) e m.1.wants
may_want s b (OnNames (MakeDir d n h depth value)) (Carried g) x m e = subst (WantsAll s) e m.1.wants
may_want s b (OnNames (Unlink d n f)) (Carried g) x m e = subst (WantsAll s) e m.1.wants
may_want s b (OnNames (DropDir d n h)) (Carried g) x m e = subst (WantsAll s) e m.1.wants
may_want s b q (Carried g) x m e = absurd (let z : None ≡ Some x = e in cc)
may_want s b q r x m e = absurd (let z : None ≡ Some x = e in cc)

-- it is one that was wanted
pub wants_of :
    (s : Scene) (a : Ask) (r : Reply) (x : TreeStep) → Permitted s a
    → step_of a.brick.0 a.request r ≡ Some x → Wants s x
wants_of s a r x p e = may_want s a.brick.0 a.request r x p.may e

-- a copy of a directory is dropped only where the directory stands
dropped_is :
    (s : Scene) (b : ℕ) (d : Gfid) (n : List ℕ) (g : Gfid) → Changes s b (DropDir d n g)
    → s.history.tree.names (d, n) ≡ Some (IsDir g)
dropped_is s b d n g m = m.stands.node ∙ ap node_of m.takes.1

-- a directory is made and removed at its home
step_at_home :
    (s : Scene) (b : ℕ) (q : Request) (r : Reply) (x : TreeStep) → May s b q
    → step_of b q r ≡ Some x → IsAtHome s.history.tree b x
step_at_home s b (OnNames (Create d n f)) (Carried g) x m e =
    let w : AddFile d n f ≡ x = (let z : Some (AddFile d n f) ≡ Some x = e in cc) in
    subst (IsAtHome s.history.tree b) w tt
step_at_home s b (OnNames (MakeDir d n h depth value)) (Carried g) x m e =
    let at = home_is b h (AddDir d n h) x e in
    subst (IsAtHome s.history.tree b) at.1 at.0
step_at_home s b (OnNames (Unlink d n f)) (Carried g) x m e =
    let w : RemoveFile d n ≡ x = (let z : Some (RemoveFile d n) ≡ Some x = e in cc) in
    subst (IsAtHome s.history.tree b) w tt
step_at_home s b (OnNames (DropDir d n h)) (Carried g) x m e =
    let at = home_is b h (RemoveDir d n) x e in
    subst (IsAtHome s.history.tree b) at.1 (λ k stands. at.0 ∙ ap home (let z : Some (IsDir h) ≡ Some (IsDir k) = sym (dropped_is s b d n h m.1) ∙ stands in let y : h ≡ k = cc in y))
step_at_home s b q (Carried g) x m e = absurd (let z : None ≡ Some x = e in cc)
step_at_home s b q r x m e = absurd (let z : None ≡ Some x = e in cc)

pub is_at_home :
    (s : Scene) (a : Ask) (r : Reply) (x : TreeStep) → Permitted s a
    → step_of a.brick.0 a.request r ≡ Some x → IsAtHome s.history.tree a.brick.0 x
is_at_home s a r x p e = step_at_home s a.brick.0 a.request r x p.may e

-- ---- which requests wait

is_await : {A : Type 0} → Outcome A → Bool
is_await (Do given new) = false
is_await (Refuse why) = false
is_await (Await holder) = true

awaits_within :
    {A B : Type 0} (whole : A → B) (o : Outcome A) → is_await (within whole o) ≡ is_await o
unfolding is_await
awaits_within whole (Do given new) = refl
awaits_within whole (Refuse why) = refl
awaits_within whole (Await holder) = refl

no_wait_in_dir :
    {A : Type 0} (o : Option DirRecord) (f : DirRecord → Outcome A)
    → ((r : DirRecord) → is_await (f r) ≡ false) → is_await (in_dir o f) ≡ false
unfolding is_await
no_wait_in_dir None f h = refl
no_wait_in_dir (Some r) f h = h r

no_wait_slot :
    (q : NameRequest) (s : Store) (e : Entry) (o : Option Slot) → is_await (on_slot q s e o) ≡ false
unfolding is_await
no_wait_slot q s e None = refl
no_wait_slot q s e (Some p) = refl

no_wait_empty :
    (b : Bool) (o : Outcome Store) → is_await o ≡ false → is_await (if_empty b o) ≡ false
unfolding is_await
no_wait_empty true (Do given new) e = refl
no_wait_empty true (Refuse why) e = e
no_wait_empty true (Await h) e = e
no_wait_empty false o e = e

no_wait_name :
    (bricks : List (List ℕ)) (q : NameRequest) (s : Store) → is_await (name_row bricks q s) ≡ false
unfolding is_await
no_wait_name bricks (Look d n) s = no_wait_in_dir (dir s d) _ (λ r. refl)
no_wait_name bricks (Page d after) s = no_wait_in_dir (dir s d) _ (λ r. refl)
no_wait_name bricks (Dirinfo d) s = no_wait_in_dir (dir s d) _ (λ r. refl)
no_wait_name bricks (SetLayout d value) s = no_wait_in_dir (dir s d) _ (λ r. refl)
no_wait_name bricks (DropDir d n g) s = no_wait_in_dir (dir s d) _ (λ r. no_wait_empty (is_occupied s.slots g) (slot_change bricks (DropDir d n g) s (d, n)) (no_wait_slot (DropDir d n g) s (d, n) (slot_row bricks s (DropDir d n g) (slot s (d, n)))))
no_wait_name bricks (Orphans after) s = refl
no_wait_name bricks q s = no_wait_in_dir (dir s (name_named q).0) _ (λ r. no_wait_slot q s (name_named q) _)

no_wait_if :
    {A : Type 0} (b : Bool) (x y : Outcome A) → is_await x ≡ false → is_await y ≡ false
    → is_await (if b then x else y) ≡ false
no_wait_if true x y ex ey = ex
no_wait_if false x y ex ey = ey

no_wait_drop :
    (bricks : List (List ℕ)) (f : Gfid) (s : Store) (r : Option Record) → file s f ≡ r
    → is_await (file_row bricks (Drop f) s) ≡ false
unfolding is_await
no_wait_drop bricks f s (Some (Live hop bytes)) e = rw e (no_wait_if (links s.slots f == 0) (Do given.Nothing (without_file s f)) (Refuse (why.Links (links s.slots f))) refl refl)
no_wait_drop bricks f s r e = rw e refl

no_wait_seal : (f : Gfid) (o : Opens) → is_await (seal_row f o) ≡ false
unfolding is_await
no_wait_seal f o = no_wait_if (registrations o f == 0) (Do given.Nothing (sealed o f)) (Refuse (why.Open (registrations o f))) refl refl

not_await : {A : Type 0} (o : Outcome A) (h : ClientNo) → is_await o ≡ false → o ≡ Await h → ⊥
unfolding is_await
not_await o h e k = let z : false ≡ true = sym e ∙ ap is_await k in cc

-- a request that waits is for a lock
pub record IsLock (q : Request) : Type 0 where
  pub key : Key
  pub mode : Mode
  pub is : q ≡ Lock key mode

waits_by :
    (s : Scene) (b : ℕ) (bricks : List (List ℕ)) (client : ClientNo) (call : CallNo) (q : Request)
    (c : Contents) (h : ClientNo)
    → May s b q → row bricks client call q c ≡ Await h → IsLock q
unfolding is_await
waits_by s b bricks client call (Lock key mode) c h m e = record { key = key; mode = mode; is = refl }
waits_by s b bricks client call (Unlock key) c h m e = absurd (not_await _ h refl e)
waits_by s b bricks client call (OnNames q) c h m e = absurd (not_await _ h (awaits_within (with_store c) (name_row bricks q c.store) ∙ no_wait_name bricks q c.store) e)
waits_by s b bricks client call (OnFile (Drop f)) c h m e = absurd (not_await _ h (awaits_within (with_store c) (file_row bricks (Drop f) c.store) ∙ no_wait_drop bricks f c.store (file c.store f) refl) e)
waits_by s b bricks client call (OnFile q) c h m e = absurd m.0
waits_by s b bricks client call (Seal f) c h m e = absurd (not_await _ h (awaits_within (with_opens c) (seal_row f c.opens) ∙ no_wait_seal f c.opens) e)
waits_by s b bricks client call q c h m e = absurd m

pub waits_is_lock :
    (s : Scene) (a : Ask) (bricks : List (List ℕ)) (client : ClientNo) (call : CallNo)
    (c : Contents) (h : ClientNo)
    → Permitted s a → row bricks client call a.request c ≡ Await h → IsLock a.request
waits_is_lock s a bricks client call c h p e = waits_by s a.brick.0 bricks client call a.request c h p.may e

-- ---- for whom it waits

lowest_by :
    (test : ℕ → Bool) (n h : ℕ) (o : Option ℕ) (v : Bool) → o ≡ lowest test n → test n ≡ v
    → (lowest test n ≡ Some h → test h ≡ true) → first_of o (if v then Some n else None) ≡ Some h
    → test h ≡ true
lowest_by test n h None true eo ev more e = ap test (sym (let z : Some n ≡ Some h = e in let w : n ≡ h = cc in w)) ∙ ev
lowest_by test n h None false eo ev more e = absurd (let z : None ≡ Some h = e in cc)
lowest_by test n h (Some m) v eo ev more e = more (sym eo ∙ e)

-- the lowest that passes, passes
lowest_passes : (test : ℕ → Bool) (n h : ℕ) → lowest test n ≡ Some h → test h ≡ true
unfolding lowest
lowest_passes test zero h e = absurd (let z : None ≡ Some h = e in cc)
lowest_passes test (suc n) h e = lowest_by test n h (lowest test n) (test n) refl refl (lowest_passes test n h) e

awaits_by :
    (o : Option ℕ) (whole : Locks → Contents) (x : Outcome Locks) (h : ClientNo)
    → is_await x ≡ false → within whole (unless_awaited o x) ≡ Await h → o ≡ Some h.0
unfolding is_await
awaits_by None whole x h n e = absurd (not_await (within whole x) h (awaits_within whole x ∙ n) e)
awaits_by (Some m) whole x h n e = ap (λ (k : ℕ). Some k) (let z : Await (record { 0 = m }) ≡ Await h = e in ap (number_of m) z)
  where
    number_of : {A : Type 0} → ℕ → Outcome A → ℕ
    number_of m (Await holder) = holder.0
    number_of m o = m

keeps_is :
    (holds : ℕ → Option Mode) (client other : ℕ) (mode : Mode) (v : Bool) (o : Option Mode)
    → nat_eq other client ≡ v → holds other ≡ o → (not v && hold_excludes o mode) ≡ true
    → (other ≢ client) × (m : Mode) × (holds other ≡ Some m)
keeps_is holds client other mode true o ev eo e = absurd (let z : false ≡ true = e in cc)
keeps_is holds client other mode false None ev eo e = absurd (let z : false ≡ true = e in cc)
keeps_is holds client other mode false (Some m) ev eo e = (λ q. (let z : true ≡ false = sym ((exact_nat other client).1 q) ∙ ev in cc), m, eo)

-- a lock that is waited for is held by another client
pub held_by :
    (bricks : List (List ℕ)) (client : ClientNo) (call : CallNo) (key : Key) (mode : Mode)
    (c : Contents) (h : ClientNo)
    → row bricks client call (Lock key mode) c ≡ Await h
    → (h.0 ≢ client.0) × (m : Mode) × (c.locks key h.0 ≡ Some m)
unfolding is_await
held_by bricks client call key mode c h e =
    keeps_is (c.locks key) client.0 h.0 mode (nat_eq h.0 client.0) (c.locks key h.0) refl refl
    (lowest_passes (keeps_out (c.locks key) client.0 mode) 65536 h.0 (awaits_by (awaited c.locks client key mode) (with_locks c) _ h refl e))

-- nobody else holds it, so it is granted
free_by :
    (holds : ℕ → Option Mode) (client : ℕ) (mode : Mode) (other : ℕ) (v : Bool)
    → nat_eq other client ≡ v → (other ≢ client → holds other ≡ None)
    → (not v && hold_excludes (holds other) mode) ≡ false
free_by holds client mode other true ev h = refl
free_by holds client mode other false ev h = ap (λ (o : Option Mode). hold_excludes o mode) (h (λ q. let z : true ≡ false = sym ((exact_nat other client).1 q) ∙ ev in cc))

-- where no other client holds a lock, no request waits
pub never_waits :
    (bricks : List (List ℕ)) (client : ClientNo) (call : CallNo) (key : Key) (mode : Mode)
    (c : Contents) (h : ClientNo)
    → ((other : ℕ) → other ≢ client.0 → c.locks key other ≡ None)
    → row bricks client call (Lock key mode) c ≡ Await h → ⊥
unfolding is_await
never_waits bricks client call key mode c h free e =
    not_await _ h (ap (λ (o : Outcome Locks). is_await (within (with_locks c) o)) (free_locks_are_granted client key mode c.locks (λ other l. free_by (c.locks key) client.0 mode other (nat_eq other client.0) refl (free other)))) e

-- ---- replies

-- an unlock is carried out
unlock_by :
    (bricks : List (List ℕ)) (client : ClientNo) (call : CallNo) (key : Key) (c new : Contents)
    (is_up : Bool) (r : Reply)
    → ServesOrFails (row bricks client call (Unlock key) c) c r new
    → ((r ≡ Down) ↔ (is_unreachable is_up (Unlock key) ≡ true)) → r ≢ Failed → r ≢ NoMemory
    → reply_kind r ≡ kind.Ok
unfolding is_await
unlock_by bricks client call key c new is_up (Carried g) v down failed memory = refl
unlock_by bricks client call key c new is_up (Declined why) v down failed memory = absurd (let z : Do given.Nothing (with_locks c (held c.locks key client.0 None)) ≡ Refuse why = v.0 in cc)
unlock_by bricks client call key c new is_up (Wait h) v down failed memory = absurd (not_await _ h refl v.0)
unlock_by bricks client call key c new is_up Down v down failed memory = absurd (let z : false ≡ true = down.0 refl in cc)
unlock_by bricks client call key c new is_up Failed v down failed memory = absurd (failed refl)
unlock_by bricks client call key c new is_up NoMemory v down failed memory = absurd (memory refl)

pub unlock_is_carried :
    (bricks : List (List ℕ)) (client : ClientNo) (call : CallNo) (q : Request) (c new : Contents)
    (is_up : Bool) (r : Reply)
    → ServesOrFails (row bricks client call q c) c r new
    → ((r ≡ Down) ↔ (is_unreachable is_up q ≡ true)) → r ≢ Failed
    → (NeverTakesMemory q → r ≢ NoMemory) → IsUnlock q → reply_kind r ≡ kind.Ok
unlock_is_carried bricks client call (Unlock key) c new is_up r v down failed memory u = unlock_by bricks client call key c new is_up r v down failed (memory tt)
unlock_is_carried bricks client call q c new is_up r v down failed memory u = absurd u

file_unlock : (q : FileRequest) → file_kind q ≡ request.Unlock → ⊥
file_unlock (Read f offset size) e = cc
file_unlock q e = cc

name_unlock : (q : NameRequest) → name_kind q ≡ request.Unlock → ⊥
name_unlock (Look d n) e = cc
name_unlock q e = cc

pub unlock_kind : (q : Request) → kind_of q ≡ request.Unlock → IsUnlock q
unlock_kind (Unlock key) e = tt
unlock_kind (OnFile q) e = absurd (file_unlock q e)
unlock_kind (OnNames q) e = absurd (name_unlock q e)
unlock_kind q e = absurd (let z : kind_of q ≡ request.Unlock = e in cc)

unlock_is : (q : Request) → IsUnlock q → kind_of q ≡ request.Unlock
unlock_is (Unlock key) u = refl
unlock_is q u = absurd u

-- a reply that the brick is down, or failed, by its kind
kind_down : (r : Reply) → reply_kind r ≡ kind.Down → r ≡ Down
kind_down Down e = refl
kind_down (Carried g) e = absurd (let z : kind.Ok ≡ kind.Down = e in cc)
kind_down r e = absurd (let z : reply_kind r ≡ kind.Down = e in cc)

kind_failed : (r : Reply) → reply_kind r ≡ kind.Failed → r ≡ Failed
kind_failed Failed e = refl
kind_failed r e = absurd (let z : reply_kind r ≡ kind.Failed = e in cc)

kind_wait : (r : Reply) → is_wait r ≡ false → reply_kind r ≡ kind.Wait → ⊥
kind_wait (Wait h) n e = let z : true ≡ false = n in cc
kind_wait r n e = let z : reply_kind r ≡ kind.Wait = e in cc

unreachable_is :
    (down : Bool) (q : Request) → is_unreachable (not down) q ≡ true
    → (down ≡ true) × (kind_of q ≢ request.Unlock)
unreachable_is down (Unlock key) e = absurd (let z : false ≡ true = e in cc)
unreachable_is true q e = (refl, λ k. not_unlock q (unlock_kind q k) e)
  where
    not_unlock : (x : Request) → IsUnlock x → is_unreachable (not true) x ≡ true → ⊥
    not_unlock (Unlock key) u e = let z : false ≡ true = e in cc
    not_unlock x u e = u
unreachable_is false (OnFile q) e = absurd (let z : false ≡ true = e in cc)
unreachable_is false q e = absurd (let z : is_unreachable true q ≡ true = e in cc)

is_reached : (q : Request) → kind_of q ≢ request.Unlock → is_unreachable (not true) q ≡ true
is_reached (Unlock key) n = absurd (n refl)
is_reached q n = refl

-- as a step line tells it
pub down_as_told :
    (down : Bool) (q : Request) (r : Reply) → ((r ≡ Down) ↔ (is_unreachable (not down) q ≡ true))
    → (reply_kind r ≡ kind.Down) ↔ ((down ≡ true) × (kind_of q ≢ request.Unlock))
down_as_told down q r h = (
  λ e. unreachable_is down q (h.0 (kind_down r e)),
  λ p. ap reply_kind (h.1 (subst (λ (v : Bool). is_unreachable (not v) q ≡ true) (sym p.0) (is_reached q p.1))),
)

pub sound_as_told :
    (r : Reply) → r ≢ Failed → is_wait r ≡ false
    → (reply_kind r ≢ kind.Failed) × (reply_kind r ≢ kind.Wait)
sound_as_told r failed n = (λ e. failed (kind_failed r e), kind_wait r n)

-- a brick at which a lock is waited for is up
pub wait_is_up :
    (down : Bool) (key : Key) (mode : Mode) (h : ClientNo)
    → ((Wait h ≡ Down) ↔ (is_unreachable (not down) (Lock key mode) ≡ true)) → down ≡ false
wait_is_up true key mode h e = absurd (let z : Wait h ≡ Down = e.1 refl in cc)
wait_is_up false key mode h e = refl
