-- Each clause of the invariant reads what is shown of one thing; so
-- a request leaves each clause on a thing that it does not name.
use Rattle.std.proofs.Common.{◌≡◌, ◌≢◌, ◌≤◌, ℕ, arith, Bool, true, false, [], refl, sym, ap, ◌∙◌, subst}
use Rattle.std.specs.Prelude.{Option, Some, None, is_some, nat_eq, if◌then◌else◌}
use Rattle.dht_types.proofs.PutLaws.{put_other, exact_entry, exact_gfid}
use Rattle.dht_types.specs.Gfid.{Entry, home, same_gfid}
use Rattle.dht_types.specs.History.{History, slot_of}
use Rattle.dht_types.specs.Put.{same_entry}
use Rattle.dht_types.specs.Tree.{Tree, Node, Descent, IsFile, IsDir, applied, descent_at, less_dir}
use Rattle.dht_types.specs.declared.calls.TreeStep.{TreeStep}
use Rattle.dht_types.specs.declared.calls.TreeStep.TheVariants.{AddFile, AddDir, RemoveFile, RemoveDir}
use Rattle.dht_types.specs.declared.identifiers.CallNo.{CallNo}
use Rattle.dht_types.specs.declared.identifiers.ClientNo.{ClientNo}
use Rattle.dht_types.specs.declared.identifiers.Gfid.{Gfid}
use Rattle.dht_types.specs.declared.locks.Key.{Key}
use Rattle.dht_types.specs.declared.locks.Mode.{Mode}
use Rattle.dht_types.specs.declared.names.EntryKey.{EntryKey}
use Rattle.dht_types.specs.declared.stored.DirRecord.{DirRecord}
use Rattle.dht_brick.specs.Contents.{Store}
use Rattle.dht_brick.specs.declared.replies.Reply.{Reply}
use Rattle.dht_brick.specs.declared.replies.Reply.TheVariants.{Ok as Carried}
use Rattle.dht_brick.specs.declared.requests.NameRequest.TheVariants.{MakeDir, DropDir, Create, Unlink}
use Rattle.dht_brick.specs.declared.requests.Request.{Request}
use Rattle.dht_brick.specs.declared.requests.Request.TheVariants.{OnNames}
use Rattle.dht_section.specs.declared.machine.Ask.{Ask}
use Rattle.dht_section.specs.Claims.{Claim, Listed, places_of}
use Rattle.dht_section.specs.Disk.{Disk, holders}
use Rattle.dht_section.specs.Dirs.{DirInvariant, PlacedAt, CopyAt}
use Rattle.dht_section.specs.Files.{FileInvariant}
use Rattle.dht_section.specs.Invariant.{most_hops}
use Rattle.dht_section.specs.Locks.{LockInvariant}
use Rattle.dht_section.specs.Moves.{Guarantee, outcome_of, request_step, step_of, tree_by}
use Rattle.dht_section.specs.Scene.{Scene}
use Rattle.dht_section.specs.Views.{DirView, cores_of, view_of, dir_view}
use Rattle.dht_invariant.specs.Laws.{ClausesAreLocal, RequestsLeaveOthers, AnswersLeaveOthers}
use Rattle.dht_invariant.specs.Locality.{Reach, ChangesWithin, HousedClause, ByFileRecord, ByDirRecord, IsNode, OthersStand, SameDir, ShowsTheSame, SlotStays, Same, Went, reach}
use Rattle.dht_invariant.proofs.Frames.{name_kept, file_kept, dir_kept}
use Rattle.dht_invariant.proofs.RowLocality.{row_within, unchanged_within}
use Rattle.dht_invariant.proofs.ServedLaws.{served_is}
use Rattle.dht_invariant.proofs.ViewLocality.{requests_are_local, shows_the_same}

-- hops may grow with the lines
pub hops_grow : (s t : History) → s.size ≤ t.size → most_hops s ≤ most_hops t
hops_grow s t l = omega arith

-- ---- directories

module _ (v w : DirView) (same : SameDir v w) where
  copy_was : (b : ℕ) (r : DirRecord) → w.copies b ≡ Some r → v.copies b ≡ Some r
  copy_was b r h = sym (ap (λ (c : ℕ → Option DirRecord). c b) same.copies) ∙ h

  there_was : (b : ℕ) → is_some (w.copies b) ≡ true → is_some (v.copies b) ≡ true
  there_was b h = sym (ap (λ (c : ℕ → Option DirRecord). is_some (c b)) same.copies) ∙ h

  placed_by : (b : ℕ) (r : DirRecord) (o : Option EntryKey) → r.place ≡ o → v.copies b ≡ Some r → PlacedAt v b r o → PlacedAt w b r o
  placed_by b r None e there h = h
  placed_by b r (Some k) e there h = record {
    main = ap (λ (f : ℕ → Entry → Bool). f b (k.dir, k.name)) same.mains ∙ h.main;
    above = h.above;
    parent = same.above b r k there e ∙ h.parent;
    depth = h.depth;
  }

  named_by : (b : ℕ) (e : Entry) → CopyAt v b e → CopyAt w b e
  named_by b e h = record { copy = h.copy; there = ap (λ (c : ℕ → Option DirRecord). c b) same.copies ∙ h.there; key = h.key; place = h.place; name = h.name }

  dir_stands : (count : ℕ) (g : Gfid) (known : Bool) (descent : Option Descent) → DirInvariant count g v known descent → DirInvariant count g w known descent
  dir_stands count g known descent h = record {
    homed = h.homed ∙ sym (ap (λ (c : ℕ → Option DirRecord). is_some (c (home g))) same.copies);
    led = λ b l there. h.led b l (there_was b there);
    one = λ b i r q lb li hb hi. h.one b i r q lb li (copy_was b r hb) (copy_was i q hi);
    placed = λ b r l there. placed_by b r r.place refl (copy_was b r there) (h.placed b r l (copy_was b r there));
    rooted = λ b r l there place. h.rooted b r l (copy_was b r there) place;
    deep = λ b r l there. h.deep b r l (copy_was b r there);
    named = λ b e l main. named_by b e (h.named b e l (sym (ap (λ (f : ℕ → Entry → Bool). f b e) same.mains) ∙ main));
  }

-- ---- locks and slots

lock_stands :
    (b : ℕ) (key : Key) (old new : ℕ → Option Mode) (p q : ℕ → Claim) → new ≡ old
    → ((c : ℕ) → Listed (p c).locks b key → Listed (q c).locks b key) → LockInvariant b key old p
    → LockInvariant b key new q
lock_stands b key old new p q e listed h = subst (λ (x : ℕ → Option Mode). LockInvariant b key x q) (sym e)
    (record { alone = h.alone; claimed = λ c m holds. listed c (h.claimed c m holds); low = h.low })

housed_stands :
    (d e : Disk) (x : Entry) (b : ℕ) → SlotStays (d.brick b).store (e.brick b).store x
    → HousedClause d x b → HousedClause e x b
housed_stands d e x b (Same slot there) h ne = there (h (λ q. ne (slot ∙ q)))
housed_stands d e x b (Went was slot) h ne = absurd (ne slot)

pub clauses_are_local : ClausesAreLocal
clauses_are_local d e t u low top p q count higher = record {
  names = λ x cores node h. name_kept d.count e.count (cores_of d x) (cores_of e x) (t.names x) (u.names x) count (λ i j. cores j i) node h;
  files = λ f view bytes places h. file_kept d.count e.count low top (places_of q f) (view_of d f) (view_of e f) (t.bytes f) (u.bytes f) count view bytes higher
      (subst (λ (x : ℕ → ℕ → ℕ). FileInvariant d.count low x (view_of d f) (t.bytes f)) (sym places) h);
  dirs = λ g same is descent h. dir_kept d.count e.count g (dir_view e g) (dir_view e g) (t.dirs g) (u.dirs g) (t.descents g) (u.descents g) count refl is descent
      (dir_stands (dir_view d g) (dir_view e g) same d.count g (t.dirs g) (t.descents g) h);
  locks = λ b key holds listed h. lock_stands b key (holders d b key) (holders e b key) p q holds listed h;
  housed = housed_stands d e;
  roots = λ b same h. same ∙ h;
}

-- ---- the step of the tree is of what the request names

-- a step leaves each name, file and directory that it is not of
step_names :
    (step : TreeStep) (t : Tree) (x : Entry) → slot_of step ≢ x
    → (applied step t).names x ≡ t.names x
step_names (AddFile d n f) t x ne = put_other same_entry exact_entry t.names (d, n) (Some (IsFile f)) x (λ q. ne (sym q))
step_names (AddDir d n g) t x ne = put_other same_entry exact_entry t.names (d, n) (Some (IsDir g)) x (λ q. ne (sym q))
step_names (RemoveFile d n) t x ne = put_other same_entry exact_entry t.names (d, n) None x (λ q. ne (sym q))
step_names (RemoveDir d n) t x ne = put_other same_entry exact_entry t.names (d, n) None x (λ q. ne (sym q))

less_others :
    (dirs : Gfid → Bool) (o : Option Node) (g : Gfid) → (o ≡ Some (IsDir g) → ⊥)
    → less_dir dirs o g ≡ dirs g
less_others dirs None g out = refl
less_others dirs (Some (IsFile f)) g out = refl
less_others dirs (Some (IsDir h)) g out = put_other same_gfid exact_gfid dirs h false g (λ q. out (ap (λ (x : Gfid). Some (IsDir x)) (sym q)))

-- the tree is as it was, but for what is named
record TreeStays (p : Reach) (t u : Tree) : Type 0 where
  names : (x : Entry) → p.stored.slot ≢ Some x → u.names x ≡ t.names x
  bytes : (f : Gfid) → p.stored.file ≢ Some f → u.bytes f ≡ t.bytes f
  dirs : (g : Gfid) → p.stored.dir ≢ Some g → (IsNode p t g → ⊥) → u.dirs g ≡ t.dirs g
  descents : (g : Gfid) → p.stored.dir ≢ Some g → u.descents g ≡ t.descents g

stays_same : (p : Reach) (t : Tree) → TreeStays p t t
stays_same p t = record { names = λ x ne. refl; bytes = λ f ne. refl; dirs = λ g ne out. refl; descents = λ g ne. refl }

-- a step at the home, or none
stays_home :
    (p : Reach) (t : Tree) (step : TreeStep) (home : Bool) → TreeStays p t (applied step t)
    → TreeStays p t (tree_by (if home then Some step else None) t)
stays_home p t step true h = h
stays_home p t step false h = stays_same p t

tree_stays :
    (client : ClientNo) (call : CallNo) (b : ℕ) (q : Request) (s : Store) (t : Tree)
    → TreeStays (reach client call q s) t (tree_by (request_step b q) t)
tree_stays client call b (OnNames (Create d n f)) s t = record {
  names = λ x ne. step_names (AddFile d n f) t x (λ q. ne (ap Some q));
  bytes = λ g ne. put_other same_gfid exact_gfid t.bytes f (Some []) g (λ q. ne (ap Some (sym q)));
  dirs = λ g ne out. refl;
  descents = λ g ne. refl;
}
tree_stays client call b (OnNames (MakeDir d n g depth value)) s t = stays_home (reach client call (OnNames (MakeDir d n g depth value)) s) t (AddDir d n g) (nat_eq b (home g)) (record {
  names = λ x ne. step_names (AddDir d n g) t x (λ q. ne (ap Some q));
  bytes = λ f ne. refl;
  dirs = λ h ne out. put_other same_gfid exact_gfid t.dirs g true h (λ q. ne (ap Some (sym q)));
  descents = λ h ne. put_other same_gfid exact_gfid t.descents g (Some (descent_at t d n)) h (λ q. ne (ap Some (sym q)));
})
tree_stays client call b (OnNames (Unlink d n f)) s t = record {
  names = λ x ne. step_names (RemoveFile d n) t x (λ q. ne (ap Some q));
  bytes = λ g ne. refl;
  dirs = λ g ne out. refl;
  descents = λ g ne. refl;
}
tree_stays client call b (OnNames (DropDir d n g)) s t = stays_home (reach client call (OnNames (DropDir d n g)) s) t (RemoveDir d n) (nat_eq b (home g)) (record {
  names = λ x ne. step_names (RemoveDir d n) t x (λ q. ne (ap Some q));
  bytes = λ f ne. refl;
  dirs = λ h ne out. less_others t.dirs (t.names (d, n)) h (λ e. out (record { entry = (d, n); slot = refl; node = e }));
  descents = λ h ne. refl;
})
tree_stays client call b (OnNames q) s t = stays_same (reach client call (OnNames q) s) t
tree_stays client call b q s t = stays_same (reach client call q s) t

answer_stays :
    (client : ClientNo) (call : CallNo) (b : ℕ) (q : Request) (r : Reply) (s : Store) (t : Tree)
    → TreeStays (reach client call q s) t (tree_by (step_of b q r) t)
answer_stays client call b q (Carried given) s t = tree_stays client call b q s t
answer_stays client call b q r s t = stays_same (reach client call q s) t

-- ---- the clauses on what is not named

others_stand :
    (p : Reach) (b : ℕ) (d e : Disk) (t u : Tree) (low top : ℕ) (claims : ℕ → Claim)
    → ShowsTheSame p b d e → TreeStays p t u → low ≤ top → OthersStand p b d e t u low top claims
others_stand p b d e t u low top claims shown tree higher =
    let stand = clauses_are_local d e t u low top claims claims shown.count higher in
    record {
      names = λ x out h. stand.names x (shown.names x out) (tree.names x out) h;
      files = λ f out h. stand.files f (shown.files f out) (tree.bytes f (λ k. out (ByFileRecord k))) refl h;
      dirs = λ g out no_node h. stand.dirs g (shown.dirs g out) (tree.dirs g (λ k. out (ByDirRecord k)) no_node) (tree.descents g (λ k. out (ByDirRecord k))) h;
      locks = λ i key out h. stand.locks i key (shown.locks i key out) (λ c l. l) h;
      housed = λ x i out h. stand.housed x i (shown.slots x i out) h;
      roots = λ i out h. stand.roots i (shown.roots i out) h;
    }

pub requests_leave_others : RequestsLeaveOthers
requests_leave_others client call b q d e t low top claims carried higher =
    let s = (d.brick b).store in
    others_stand (reach client call q s) b d e t (tree_by (request_step b q) t) low top claims (requests_are_local client call b q d e carried)
    (tree_stays client call b q s t) higher

-- what a request of mine reaches, what it changed on
-- its brick, and what all bricks show of all else
abbrev pub reach_of : Scene → Ask → Reach
reach_of s a = reach s.who s.mine.number a.request (s.disk.brick a.brick.0).store

pub answer_changes :
    (s t : Scene) (a : Ask) (r : Reply) (m : Guarantee s a r t)
    → ChangesWithin (reach_of s a) (s.disk.brick a.brick.0) m.new
answer_changes s t a r m =
    let old = s.disk.brick a.brick.0 in
    served_is (ChangesWithin (reach_of s a) old) (outcome_of s a) old m.real m.new (row_within _ s.who s.mine.number a.request old) (unchanged_within (reach_of s a) old) m.served

pub answer_shows :
    (s t : Scene) (a : Ask) (r : Reply) → Guarantee s a r t
    → ShowsTheSame (reach_of s a) a.brick.0 s.disk t.disk
answer_shows s t a r m = shows_the_same (reach_of s a) a.brick.0 s.disk t.disk m.new m.disk (answer_changes s t a r m)

pub answers_leave_others : AnswersLeaveOthers
answers_leave_others s t a r m =
    let store = (s.disk.brick a.brick.0).store in
    let tree = s.history.tree in
    others_stand (reach_of s a) a.brick.0 s.disk t.disk tree t.history.tree (most_hops s.history) (most_hops t.history) s.claims
    (answer_shows s t a r m)
    (subst (TreeStays (reach_of s a) tree) (sym m.tree) (answer_stays s.who s.mine.number a.brick.0 a.request m.real store tree))
    (hops_grow s.history t.history m.later)
