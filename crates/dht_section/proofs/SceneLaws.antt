-- What a request of one's own makes of the bricks, of its locks and of its call.
use Rattle.std.proofs.Common.{◌≡◌, ◌||◌, ℕ, List, refl, sym, ◌∙◌, ap, subst, arith, Bool, true, false}
use Rattle.std.specs.Prelude.{Option, Some, None, nat_eq, if◌then◌else◌}
use Rattle.dht_types.proofs.PutLaws.{put_same, put_keeps, exact_nat}
use Rattle.dht_types.specs.Put.{put}
use Rattle.dht_types.specs.Gfid.{Entry, anchor}
use Rattle.dht_types.specs.History.{IsAlone, is_carried}
use Rattle.dht_types.specs.Tree.{Tree}
use Rattle.dht_types.specs.declared.calls.TreeStep.{TreeStep}
use Rattle.dht_types.specs.declared.errors.Errno.{Errno}
use Rattle.dht_types.specs.declared.errors.Errno.TheVariants.{Enotconn, Eio, Enomem}
use Rattle.dht_types.specs.declared.identifiers.Gfid.{Gfid}
use Rattle.dht_types.specs.declared.identifiers.ClientNo.{ClientNo}
use Rattle.dht_types.specs.declared.identifiers.CallNo.{CallNo}
use Rattle.dht_types.specs.declared.locks.Key.{Key}
use Rattle.dht_types.specs.declared.locks.Mode.{Mode}
use Rattle.dht_types.specs.declared.stored.DirRecord.{DirRecord}
use Rattle.dht_brick.specs.Bricks.{ServesOrFails}
use Rattle.dht_brick.specs.Contents.{Contents, Store, Locks, slot, dir}
use Rattle.dht_brick.specs.Kinds.{reply_kind}
use Rattle.dht_brick.specs.LockRows.{same_key, held, awaited, unless_awaited, lock_row}
use Rattle.dht_brick.specs.NameRows.{name_row}
use Rattle.dht_brick.specs.FileRows.{file_row}
use Rattle.dht_brick.specs.OpenRows.{register_row, unregister_row, seal_row}
use Rattle.dht_brick.specs.Outcome.{Outcome, Do, Refuse, Await, in_dir, within, reply_in, left_by}
use Rattle.dht_brick.specs.Rows.{after, with_store, with_opens, with_locks}
use Rattle.dht_brick.proofs.LockLaws.{exact_key}
use Rattle.dht_brick.specs.declared.replies.Given.{Given}
use Rattle.dht_brick.specs.declared.replies.Given.TheVariants as given
use Rattle.dht_brick.specs.declared.requests.NameRequest.{NameRequest}
use Rattle.dht_brick.specs.declared.requests.NameRequest.TheVariants.{Look, Dirinfo}
use Rattle.dht_brick.specs.declared.requests.Request.{Request}
use Rattle.dht_brick.specs.declared.requests.Request.TheVariants.{Lock, Unlock, Register, Unregister, Seal, OnNames, OnFile}
use Rattle.dht_brick.specs.declared.replies.Reply.{Reply}
use Rattle.dht_brick.specs.declared.replies.Reply.TheVariants.{Ok as Carried, Refused as Declined, Wait, Down, Failed, NoMemory}
use Rattle.dht_section.specs.declared.machine.Ask.{Ask}
use Rattle.dht_section.specs.Disk.{lock_at, slot_at, dir_at}
use Rattle.dht_section.specs.Moves.{Guarantee, name_step, step_of, tree_by, deeds_by, outcome_of, seen_of}
use Rattle.dht_section.specs.Replies.{fault_of}
use Rattle.dht_section.specs.Scene.{Scene, NameStands, MayAnswer, fault_finish}
use Rattle.dht_section.specs.Shapes.{NameShape}
use Rattle.dht_section.specs.Stages.{is_wait}
use Rattle.dht_section.specs.Views.{core}

put_off :
    {K A : Type 0} (same : K → K → Bool) (f : K → A) (k : K) (v : A) (m : K) → same m k ≡ false
    → put same f k v m ≡ f m
unfolding put
put_off same f k v m e = ap (λ b. if b then v else f m) e

-- ---- which requests leave what

-- the request leaves a lock as it is
abbrev pub Leaves : Request → Key → Type 0
Leaves (Lock key mode) k = same_key k key ≡ false
Leaves (Unlock key) k = same_key k key ≡ false
Leaves q k = Unit {0}

-- the request is sent by a program, and changes no name
abbrev pub IsQuietName : NameRequest → Type 0
IsQuietName (Look d n) = Unit {0}
IsQuietName (Dirinfo d) = Unit {0}
IsQuietName q = ⊥

abbrev pub IsQuiet : Request → Type 0
IsQuiet (Lock key mode) = Unit {0}
IsQuiet (Unlock key) = Unit {0}
IsQuiet (OnNames q) = IsQuietName q
IsQuiet q = ⊥

-- what a part of the contents leaves of the whole
pub within_keeps :
    {A X : Type 0} (g : Contents → X) (whole : A → Contents) (o : Outcome A) (c : Contents)
    → ((a : A) → g (whole a) ≡ g c) → g (left_by (within whole o) c) ≡ g c
within_keeps g whole (Do given new) c h = h new
within_keeps g whole (Refuse why) c h = refl
within_keeps g whole (Await holder) c h = refl

-- a lock that is asked for changes no other one
asked_keeps :
    (o : Option ℕ) (c : Contents) (new : Locks) (k : Key) → new k ≡ c.locks k
    → (left_by (within (with_locks c) (unless_awaited o (Do given.Nothing new))) c).locks k
    ≡ c.locks k
asked_keeps None c new k e = e
asked_keeps (Some holder) c new k e = refl

after_lock :
    (bricks : List (List ℕ)) (client : ClientNo) (call : CallNo) (q : Request) (c : Contents)
    (k : Key)
    → Leaves q k → (after bricks client call q c).locks k ≡ c.locks k
after_lock bricks client call (Lock key mode) c k l = asked_keeps (awaited c.locks client key mode) c _ k (put_off same_key c.locks key _ k l)
after_lock bricks client call (Unlock key) c k l = put_off same_key c.locks key _ k l
after_lock bricks client call (Register f) c k l = within_keeps (λ (x : Contents). x.locks k) (with_opens c) (register_row client call f c.opens) c (λ a. refl)
after_lock bricks client call (Unregister f opened) c k l = within_keeps (λ (x : Contents). x.locks k) (with_opens c) (unregister_row client f opened c.opens) c (λ a. refl)
after_lock bricks client call (Seal f) c k l = within_keeps (λ (x : Contents). x.locks k) (with_opens c) (seal_row f c.opens) c (λ a. refl)
after_lock bricks client call (OnNames q) c k l = within_keeps (λ (x : Contents). x.locks k) (with_store c) (name_row bricks q c.store) c (λ a. refl)
after_lock bricks client call (OnFile q) c k l = within_keeps (λ (x : Contents). x.locks k) (with_store c) (file_row bricks q c.store) c (λ a. refl)

-- what only shows something of a directory leaves the store
shown_keeps :
    (o : Option DirRecord) (given : DirRecord → Given) (c : Contents)
    → (left_by (within (with_store c) (in_dir o (λ r. Do (given r) c.store))) c).store ≡ c.store
shown_keeps None given c = refl
shown_keeps (Some r) given c = refl

pub after_store :
    (bricks : List (List ℕ)) (client : ClientNo) (call : CallNo) (q : Request) (c : Contents)
    → IsQuiet q → (after bricks client call q c).store ≡ c.store
after_store bricks client call (Lock key mode) c h = within_keeps (λ (x : Contents). x.store) (with_locks c) (lock_row client key mode c.locks) c (λ l. refl)
after_store bricks client call (Unlock key) c h = refl
after_store bricks client call (OnNames (Look d n)) c h = shown_keeps (Rattle.std.specs.FinMap.get c.store.dirs d) _ c
after_store bricks client call (OnNames (Dirinfo d)) c h = shown_keeps (Rattle.std.specs.FinMap.get c.store.dirs d) _ c
after_store bricks client call q c h = absurd h

-- ---- what a reply says

-- a fact of the contents that the row keeps is kept also where nothing was done
pub served_keeps :
    {X : Type 0} (g : Contents → X) (o : Outcome Contents) (old : Contents) (r : Reply)
    (new : Contents)
    → g (left_by o old) ≡ g old → ServesOrFails o old r new → g new ≡ g old
served_keeps g o old (Carried given) new e h = sym (ap (λ x. g (left_by x old)) h) ∙ e
served_keeps g o old (Declined why) new e h = ap g h.1
served_keeps g o old (Wait holder) new e h = ap g h.1
served_keeps g o old Down new e h = ap g h
served_keeps g o old Failed new e h = ap g h
served_keeps g o old NoMemory new e h = ap g h

-- a reply that is no fault is the row's, and so is what is left
pub served_row :
    (o : Outcome Contents) (old : Contents) (r : Reply) (new : Contents) → fault_of r ≡ None
    → ServesOrFails o old r new → (r ≡ reply_in o) × (new ≡ left_by o old)
served_row o old (Carried given) new e h = (sym (ap reply_in h), sym (ap (λ x. left_by x old) h))
served_row o old (Declined why) new e h = (sym (ap reply_in h.0), h.1 ∙ sym (ap (λ x. left_by x old) h.0))
served_row o old (Wait holder) new e h = (sym (ap reply_in h.0), h.1 ∙ sym (ap (λ x. left_by x old) h.0))
served_row o old Down new e h = absurd (let k : Some Enotconn ≡ None = e in cc)
served_row o old Failed new e h = absurd (let k : Some Eio ≡ None = e in cc)
served_row o old NoMemory new e h = absurd (let k : Some Enomem ≡ None = e in cc)

-- and it is what the brick said
real_by : (cut : Bool) (real r : Reply) → r ≡ seen_of cut real → fault_of r ≡ None → real ≡ r
real_by true real r e z = absurd (let k : Some Enotconn ≡ None = sym (ap fault_of e) ∙ z in cc)
real_by false real r e z = sym e

pub real_is :
    (s t : Scene) (a : Ask) (r : Reply) (m : Guarantee s a r t) → fault_of r ≡ None → m.real ≡ r
real_is s t a r m z = real_by m.cut m.real r m.seen z

pub served_as_seen :
    (s t : Scene) (a : Ask) (r : Reply) (m : Guarantee s a r t) → fault_of r ≡ None
    → ServesOrFails (outcome_of s a) (s.disk.brick a.brick.0) r m.new
served_as_seen s t a r m z = subst (λ (x : Reply). ServesOrFails (outcome_of s a) (s.disk.brick a.brick.0) x m.new) (real_is s t a r m z) m.served

pub row_moved :
    (s t : Scene) (a : Ask) (r : Reply) (m : Guarantee s a r t) → fault_of r ≡ None
    → (r ≡ reply_in (outcome_of s a)) × (m.new ≡ left_by (outcome_of s a) (s.disk.brick a.brick.0))
row_moved s t a r m z = served_row (outcome_of s a) (s.disk.brick a.brick.0) r m.new z (served_as_seen s t a r m z)

pub row_reply :
    (s t : Scene) (a : Ask) (r : Reply) → Guarantee s a r t → fault_of r ≡ None
    → r ≡ reply_in (outcome_of s a)
row_reply s t a r m z = (row_moved s t a r m z).0

-- a request that was carried out is no fault
pub carried_sound : (r : Reply) → is_carried (reply_kind r) ≡ true → fault_of r ≡ None
carried_sound (Carried given) e = refl
carried_sound (Declined why) e = refl
carried_sound (Wait holder) e = refl
carried_sound Down e = absurd (let k : false ≡ true = e in cc)
carried_sound Failed e = absurd (let k : false ≡ true = e in cc)
carried_sound NoMemory e = absurd (let k : false ≡ true = e in cc)

-- and the step of the tree was done that the request stands for
pub carried_step :
    (b : ℕ) (q : NameRequest) (r : Reply) → is_carried (reply_kind r) ≡ true
    → step_of b (OnNames q) r ≡ name_step b q
carried_step b q (Carried given) e = refl
carried_step b q (Declined why) e = absurd (let k : false ≡ true = e in cc)
carried_step b q (Wait holder) e = absurd (let k : false ≡ true = e in cc)
carried_step b q Down e = absurd (let k : false ≡ true = e in cc)
carried_step b q Failed e = absurd (let k : false ≡ true = e in cc)
carried_step b q NoMemory e = absurd (let k : false ≡ true = e in cc)

-- a call whose request was not served may answer that
true_or : (b : Bool) → (b || true) ≡ true
true_or true = refl
true_or false = refl

pub fault_earned :
    (s t : Scene) (a : Ask) (r : Reply) (e : Errno) → fault_of r ≡ Some e → Guarantee s a r t
    → MayAnswer (fault_finish e) t
fault_earned s t a (Carried given) e h m = absurd (let k : None ≡ Some e = h in cc)
fault_earned s t a (Declined why) e h m = absurd (let k : None ≡ Some e = h in cc)
fault_earned s t a (Wait holder) e h m = absurd (let k : None ≡ Some e = h in cc)
fault_earned s t a Down e h m = subst (λ x. MayAnswer (fault_finish x) t) (let k : Some Enotconn ≡ Some e = h in let z : Enotconn ≡ e = cc in z) (refl, m.mine.was_down ∙ true_or s.mine.was_down)
fault_earned s t a Failed e h m = subst (λ x. MayAnswer (fault_finish x) t) (let k : Some Eio ≡ Some e = h in let z : Eio ≡ e = cc in z) (refl, m.mine.has_failed ∙ true_or s.mine.has_failed)
fault_earned s t a NoMemory e h m = subst (λ x. MayAnswer (fault_finish x) t) (let k : Some Enomem ≡ Some e = h in let z : Enomem ≡ e = cc in z) refl

-- ---- what is left on the bricks

-- what one request keeps on its brick, it keeps on all
pub brick_keeps :
    {X : Type 0} (g : Contents → X) (s t : Scene) (a : Ask) (r : Reply) → Guarantee s a r t
    → g (left_by (outcome_of s a) (s.disk.brick a.brick.0)) ≡ g (s.disk.brick a.brick.0) → (i : ℕ)
    → g (t.disk.brick i) ≡ g (s.disk.brick i)
brick_keeps g s t a r m e i =
    ap (λ (f : ℕ → Contents). g (f i)) m.disk.brick
    ∙ put_keeps g nat_eq exact_nat s.disk.brick a.brick.0 m.new (served_keeps g (outcome_of s a) (s.disk.brick a.brick.0) m.real m.new e m.served) i

-- a quiet request leaves what bricks store
pub store_moved :
    (s t : Scene) (a : Ask) (r : Reply) → Guarantee s a r t → IsQuiet a.request → (b : ℕ)
    → (t.disk.brick b).store ≡ (s.disk.brick b).store
store_moved s t a r m h b = brick_keeps (λ (c : Contents). c.store) s t a r m (after_store _ s.who s.mine.number a.request (s.disk.brick a.brick.0) h) b

pub slot_moved :
    (s t : Scene) (a : Ask) (r : Reply) → Guarantee s a r t → IsQuiet a.request
    → (e : Entry) (b : ℕ) → slot_at t.disk b e ≡ slot_at s.disk b e
slot_moved s t a r m h e b = ap (λ (x : Store). slot x e) (store_moved s t a r m h b)

pub dir_moved :
    (s t : Scene) (a : Ask) (r : Reply) → Guarantee s a r t → IsQuiet a.request → (g : Gfid) (b : ℕ)
    → dir_at t.disk b g ≡ dir_at s.disk b g
dir_moved s t a r m h g b = ap (λ (x : Store). dir x g) (store_moved s t a r m h b)

-- a lock of mine that my request leaves is held as it was
pub lock_moved :
    (s t : Scene) (a : Ask) (r : Reply) → Guarantee s a r t → (g : Gfid) (k : Key)
    → Leaves a.request k → lock_at t.disk g k t.who ≡ lock_at s.disk g k s.who
lock_moved s t a r m g k l =
    ap (λ (c : ClientNo). lock_at t.disk g k c) m.who
    ∙ (ap (λ (n : ℕ). (t.disk.brick (anchor g n)).locks k s.who.0) m.disk.count
    ∙ ap (λ (f : ℕ → Option Mode). f s.who.0) (brick_keeps (λ (c : Contents). c.locks k) s t a r m (after_lock _ s.who s.mine.number a.request (s.disk.brick a.brick.0) k l) (anchor g s.disk.count)))

-- ---- locks

-- what is left of the brick that answered
pub new_is :
    (s t : Scene) (a : Ask) (r : Reply) (m : Guarantee s a r t) → t.disk.brick a.brick.0 ≡ m.new
new_is s t a r m = ap (λ (f : ℕ → Contents). f a.brick.0) m.disk.brick ∙ put_same nat_eq exact_nat s.disk.brick a.brick.0 m.new

-- how a lock is held that was set so
set_as :
    (locks : Locks) (key : Key) (client : ℕ) (mode : Option Mode)
    → held locks key client mode key client ≡ mode
set_as locks key client mode = ap (λ (f : ℕ → Option Mode). f client) (put_same same_key exact_key locks key _) ∙ put_same nat_eq exact_nat (locks key) client mode

-- a lock that was asked for is taken, or it is another client's and is to be waited for
granted_by :
    (o : Option ℕ) (c : Contents) (new : Locks) (r : Reply)
    → r ≡ reply_in (within (with_locks c) (unless_awaited o (Do given.Nothing new)))
    → is_carried (reply_kind r) ≡ true
    → (left_by (within (with_locks c) (unless_awaited o (Do given.Nothing new))) c).locks ≡ new
granted_by None c new r e k = refl
granted_by (Some holder) c new r e k = absurd (let z : false ≡ true = sym (ap (λ x. is_carried (reply_kind x)) e) ∙ k in cc)

waits_by :
    (o : Option ℕ) (c : Contents) (new : Locks) (r : Reply)
    → r ≡ reply_in (within (with_locks c) (unless_awaited o (Do given.Nothing new)))
    → is_carried (reply_kind r) ≡ false → is_wait r ≡ true
waits_by None c new r e k = absurd (let z : true ≡ false = sym (ap (λ x. is_carried (reply_kind x)) e) ∙ k in cc)
waits_by (Some holder) c new r e k = ap is_wait e

abbrev pub asks_lock : ℕ → Key → Mode → Ask
asks_lock b key mode = record { brick = record { 0 = b }; request = Lock key mode }

pub lock_taken :
    (s t : Scene) (b : ℕ) (g : Gfid) (key : Key) (mode : Mode) (r : Reply)
    → b ≡ anchor g s.disk.count → is_carried (reply_kind r) ≡ true
    → Guarantee s (asks_lock b key mode) r t → lock_at t.disk g key t.who ≡ Some mode
lock_taken s t b g key mode r e k m =
    let c = s.disk.brick b in
    let row = row_moved s t (asks_lock b key mode) r m (carried_sound r k) in
    ap (λ (i : ClientNo). lock_at t.disk g key i) m.who
    ∙ (ap (λ (i : ℕ). (t.disk.brick (anchor g i)).locks key s.who.0) m.disk.count
    ∙ (ap (λ (i : ℕ). (t.disk.brick i).locks key s.who.0) (sym e)
    ∙ (ap (λ (x : Contents). x.locks key s.who.0) (new_is s t (asks_lock b key mode) r m ∙ row.1)
    ∙ (ap (λ (f : Locks). f key s.who.0) (granted_by (awaited c.locks s.who key mode) c (held c.locks key s.who.0 (Some mode)) r row.0 k)
    ∙ set_as c.locks key s.who.0 (Some mode)))))

pub lock_waits :
    (s t : Scene) (b : ℕ) (key : Key) (mode : Mode) (r : Reply) → fault_of r ≡ None
    → is_carried (reply_kind r) ≡ false → Guarantee s (asks_lock b key mode) r t → is_wait r ≡ true
lock_waits s t b key mode r z k m = waits_by (awaited (s.disk.brick b).locks s.who key mode) (s.disk.brick b) (held (s.disk.brick b).locks key s.who.0 (Some mode)) r (row_reply s t (asks_lock b key mode) r m z) k

-- a lock that was given back is not held
abbrev pub asks_unlock : ℕ → Key → Ask
asks_unlock b key = record { brick = record { 0 = b }; request = Unlock key }

unlocked_by :
    (o : Outcome Contents) (old : Contents) (r : Reply) (new : Contents)
    → is_carried (reply_kind r) ≡ true → ServesOrFails o old r new → new ≡ left_by o old
unlocked_by o old r new k h = (served_row o old r new (carried_sound r k) h).1

pub lock_given_back :
    (s t : Scene) (b : ℕ) (key : Key) (r : Reply) → Guarantee s (asks_unlock b key) r t
    → (t.disk.brick b).locks key t.who.0 ≡ None
lock_given_back s t b key r m =
    let c = s.disk.brick b in
    ap (λ (i : ClientNo). (t.disk.brick b).locks key i.0) m.who
    ∙ (ap (λ (x : Contents). x.locks key s.who.0) (new_is s t (asks_unlock b key) r m ∙ unlocked_by (outcome_of s (asks_unlock b key)) c m.real m.new (m.unlocked tt).1 m.served)
    ∙ set_as c.locks key s.who.0 None)

-- ---- the call

-- a request that changes no name does no step
pub no_step : (b : ℕ) (q : Request) (r : Reply) → IsQuiet q → step_of b q r ≡ None
no_step b (Lock key mode) (Carried given) h = refl
no_step b (Unlock key) (Carried given) h = refl
no_step b (OnNames (Look d n)) (Carried given) h = refl
no_step b (OnNames (Dirinfo d)) (Carried given) h = refl
no_step b q (Carried given) h = absurd h
no_step b q r h = refl

pub deeds_quiet :
    (s t : Scene) (a : Ask) (r : Reply) → IsQuiet a.request → Guarantee s a r t
    → t.mine.deeds ≡ s.mine.deeds
deeds_quiet s t a r q m = m.mine.deeds_are ∙ ap (λ (o : Option TreeStep). deeds_by s t.history.size o) (no_step a.brick.0 a.request m.real q)

pub tree_quiet :
    (s t : Scene) (a : Ask) (r : Reply) → IsQuiet a.request → Guarantee s a r t
    → t.history.tree ≡ s.history.tree
tree_quiet s t a r q m = m.tree ∙ ap (λ (o : Option TreeStep). tree_by o s.history.tree) (no_step a.brick.0 a.request m.real q)

-- a call that is the only one was so before its request
pub alone_before :
    (s t : Scene) (a : Ask) (r : Reply) → Guarantee s a r t → IsAlone t.history t.mine
    → IsAlone s.history s.mine
alone_before s t a r m h = record {
  first = sym m.mine.alone ∙ h.first;
  last = ap (λ (k : CallNo). k.0) (sym m.mine.number) ∙ (h.last ∙ m.calls);
}

-- each name stands as it did
pub stands_moved :
    (s t : Scene) (a : Ask) (r : Reply) (e : Entry) (h : NameShape) → IsQuiet a.request
    → NameStands s e h → Guarantee s a r t → NameStands t e h
stands_moved s t a r e h q k m = record {
  fits = subst (λ (n : ℕ). Rattle.dht_section.specs.Shapes.NameFits n h) (sym m.disk.count) k.fits;
  has = λ b l. ap core (slot_moved s t a r m q e b) ∙ k.has b (let c = m.disk.count in omega arith);
  node = ap (λ (x : Tree). x.names e) (tree_quiet s t a r q m) ∙ k.node;
}
