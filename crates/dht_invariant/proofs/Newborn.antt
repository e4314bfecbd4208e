-- New bricks meet the invariant.
use Rattle.std.proofs.Common.{◌≡◌, ◌≢◌, ◌<◌, ◌≤◌, ◌+◌, ◌*◌, ℕ, false, List, [], ◌∷◌, refl, sym, ap, ◌∙◌, subst, inl, inr, length, arith}
use Rattle.std.specs.Prelude.{Bool, true, if◌then◌else◌, Option, Some, None, IfSome, unwrap_or, is_some, map, count_by, slice_index_or}
use Rattle.std.proofs.lemmas.Bool.{cases_lt}
use Rattle.std.specs.FinMap.{contains_key, empty, entries, get-empty, len-entries, len-empty}
use Rattle.dht_types.proofs.PutLaws.{exact_gfid}
use Rattle.dht_types.proofs.HistoryLaws.{point_with_line}
use Rattle.dht_types.specs.Gfid.{Entry, root, home, same_gfid, anchor, run_of}
use Rattle.dht_types.proofs.TreeLaws.{first_is_tree}
use Rattle.dht_types.specs.Tree.{of_root, first_tree, depth_in}
use Rattle.dht_types.specs.History.{with_line, start, IsOwn}
use Rattle.dht_types.specs.declared.identifiers.Gfid.{Gfid}
use Rattle.dht_types.specs.declared.identifiers.ClientNo.{ClientNo}
use Rattle.dht_types.specs.declared.identifiers.CallNo.{CallNo}
use Rattle.dht_types.specs.declared.locks.Key.{Key}
use Rattle.dht_types.specs.declared.locks.Mode.{Mode}
use Rattle.dht_types.specs.declared.stored.DirRecord.{DirRecord}
use Rattle.dht_types.specs.declared.stored.Slot.{Slot}
use Rattle.dht_types.specs.declared.lines.Line.TheVariants.{Volume}
use Rattle.dht_xattr.proofs.RangeLaws.{decoded_encoded}
use Rattle.dht_xattr.specs.Plan.{IsPlanned, planned, planned_value, value_of}
use Rattle.dht_xattr.proofs.PlanLaws.{planned_length, planned_valid}
use Rattle.dht_xattr.specs.declared.range.Range.{Range}
use Rattle.dht_brick.specs.Contents.{Contents, newborn, slot, dir, file, bare, no_opens, gfid_cmp, entry_cmp, registration_cmp}
use Rattle.dht_brick.specs.declared.opens.Registration.{Registration}
use Rattle.dht_brick.specs.OpenRows.{registrations, is_sealed}
use Rattle.dht_brick.specs.Parts.{is_copy, is_dir}
use Rattle.dht_section.specs.Claims.{places_of}
use Rattle.dht_section.specs.Disk.{Disk, file_in, slot_at, name_at, file_at, dir_at, range_of_value, range_of, range_at, holders}
use Rattle.dht_section.specs.Early.{Early}
use Rattle.dht_section.specs.Files.{FileInvariant}
use Rattle.dht_section.specs.Invariant.{Invariant, Things, Used, ByBytes, ByDir, ByDescent, ByRecord, ByCopy, BySeal}
use Rattle.dht_section.specs.Locks.{LockInvariant}
use Rattle.dht_section.specs.Planned.{bounds}
use Rattle.dht_section.specs.Shapes.{Bare, Gone, body}
use Rattle.dht_section.specs.Views.{core, links_to, view_of}
use Rattle.dht_types.specs.Volume.{HasWeight}
use Rattle.dht_brick.proofs.TableLemmas.{gfid_total, gfid_exact}
use Rattle.dht_invariant.specs.Laws.{no_claims}
use Rattle.dht_invariant.specs.New.{AreNew}
use Rattle.dht_invariant.proofs.AloneLaws.{RootAlone, dir_alone}
use Rattle.dht_invariant.proofs.EarlyLaws.{HasNone}
use Rattle.dht_invariant.proofs.Basics.{gfid_cases, none_some, some_same, not_true, true_false, anchor_within}
use Rattle.dht_invariant.proofs.ContentsLaws.{get_at, get_off}

pub is_not : (g : Gfid) → g ≢ root → same_gfid g root ≡ false
is_not g ne = not_true (same_gfid g root) (λ h. ne ((exact_gfid g root).0 h))

-- the record of the root on a new brick
abbrev pub root_record : Option (List ℕ) → DirRecord
root_record v = record { place = None; depth = 0; value = v }

pub root_first : (v : Option (List ℕ)) → dir (newborn v).store root ≡ Some (root_record v)
root_first v = get_at gfid_total empty root (root_record v)

pub root_only :
    (v : Option (List ℕ)) (g : Gfid) → is_some (dir (newborn v).store g) ≡ same_gfid g root
root_only v g = elim (gfid_cases g root) [
  | inl e ↦ ap is_some (ap (dir (newborn v).store) e ∙ root_first v) ∙ sym ((exact_gfid g root).1 e)
  | inr ne ↦ ap is_some (get_off gfid_total gfid_exact empty root (root_record v) g ne ∙ get-empty gfid_cmp g) ∙ sym (is_not g ne)
]

-- the range of the root on a new brick is the planned one
range_back : (o : Option Range) → IfSome o IsPlanned → range_of_value (value_of o) ≡ o
unfolding range_of_value
range_back None h = refl
range_back (Some r) h = decoded_encoded r h.range.committed h.range.ordered h.range.below

no_length : {A : Type 0} (xs : List A) → length xs ≡ 0 → xs ≡ []
no_length [] e = refl
no_length (x ∷ xs) e = absurd (omega arith)

-- nobody has opened anything on a new brick
pub none_open : (f : Gfid) → registrations no_opens f ≡ 0
unfolding registrations
none_open f = ap (λ es. count_by (λ (r : Registration). same_gfid f r.file) (map (λ (e : Registration × Unit {0}). e.0) es)) none_kept
  where
    none_kept : entries no_opens.registered ≡ []
    none_kept = no_length (entries no_opens.registered) (sym (len-entries no_opens.registered) ∙ len-empty registration_cmp (Unit {0}))

module _ (ws : List ℕ) (d : Disk) (new : AreNew ws d) (some : 0 < d.count) where
  -- what holds of a new brick
  each_new : (P : Contents → Type 0) → ((v : Option (List ℕ)) → P (newborn v)) → (b : ℕ) → b < d.count → P (d.brick b)
  each_new P h b l = subst P (sym (new.contents b l)) (h _)

  no_slot : (b : ℕ) (x : Entry) → b < d.count → slot_at d b x ≡ bare
  no_slot b x l = each_new (λ c. slot c.store x ≡ bare) (λ v. ap (λ o. unwrap_or o bare) (get-empty entry_cmp x)) b l

  no_file : (b : ℕ) (f : Gfid) → b < d.count → file_at d b f ≡ None
  no_file b f l = each_new (λ c. file c.store f ≡ None) (λ v. get-empty gfid_cmp f) b l

  root_at : (b : ℕ) (g : Gfid) → b < d.count → is_some (dir_at d b g) ≡ same_gfid g root
  root_at b g l = ap (λ (c : Contents). is_some (dir c.store g)) (new.contents b l) ∙ root_only _ g

  -- the one record is the root's
  record_at_root : (b : ℕ) (r : DirRecord) → b < d.count → dir_at d b root ≡ Some r → (r.place ≡ None) × (r.depth ≡ 0)
  record_at_root b r l e =
      let first : DirRecord = root_record (planned_value ws root b) in
      let is : dir_at d b root ≡ Some first = ap (λ (c : Contents). dir c.store root) (new.contents b l) ∙ root_first _ in
      let same : r ≡ first = some_same (dir_at d b root) r first e is in
      (ap (λ (x : DirRecord). x.place) same, ap (λ (x : DirRecord). x.depth) same)

  root_home : (g : Gfid) → same_gfid g root ≡ is_some (dir_at d (home g) g)
  root_home g = elim (cases_lt (home g) d.count) [
    | inl l ↦ sym (root_at (home g) g l)
    | inr l ↦ is_not g (λ e. let z : home g ≡ 0 = ap home e in absurd (omega arith)) ∙ sym (ap is_some (new.no_dirs (home g) g l))
  ]

  nobody_holds : (b : ℕ) (key : Key) (c : ℕ) (m : Mode) → b < d.count → holders d b key c ≡ Some m → ⊥
  nobody_holds b key c m l h = none_some (holders d b key c) m (each_new (λ x. x.locks key c ≡ None) (λ v. refl) b l) h

  lock_new : (b : ℕ) (key : Key) → b < d.count → LockInvariant b key (holders d b key) no_claims
  lock_new b key l = record {
    alone = λ c e m h i. absurd (nobody_holds b key c _ l h);
    claimed = λ c m h. absurd (nobody_holds b key c m l h);
    low = λ c m h. absurd (nobody_holds b key c m l h);
  }

  no_links : (f : Gfid) (b : ℕ) (x : Entry) → b < d.count → links_to f (slot_at d b x) ≡ false
  no_links f b x l = ap (links_to f) (no_slot b x l)

  no_open : (f : Gfid) → (view_of d f).opened ≡ 0
  no_open f = ap (λ (c : Contents). registrations c.opens f) (new.contents (anchor f d.count) (anchor_within f d.count some)) ∙ none_open f

  no_seal : (f : Gfid) → (view_of d f).sealed ≡ false
  no_seal f = ap (λ (c : Contents). is_sealed c.opens f) (new.contents (anchor f d.count) (anchor_within f d.count some)) ∙ ap is_some (get-empty gfid_cmp f)

  file_new : (f : Gfid) (top : ℕ) → FileInvariant d.count top (places_of no_claims f) (view_of d f) None
  file_new f top = record {
    shape = Gone;
    records = record { fits = tt; has = λ b l. ap body (no_file b f l) };
    low = λ k e. absurd (let z : None ≡ Some k = e in cc);
    linked = λ b x l h. absurd (true_false (links_to f (slot_at d b x)) h (no_links f b x l));
    names = λ b x l. ap (λ (s : Slot). is_copy f s.standby) (no_slot b x l);
    points = λ i k n b l h t. absurd (none_some (file_at d i f) _ (no_file i f l) h);
    sealed = λ h. absurd (true_false (view_of d f).sealed h (no_seal f));
    truth = λ h. refl;
    opened = λ h. absurd (let z = no_open f in omega arith);
    kept = λ bytes shown e k. absurd (let z : None ≡ Some bytes = e in cc);
  }

  root_alone : RootAlone d
  root_alone = record {
    some_brick = some;
    alone = root_at;
    parts = record_at_root;
    no_name = λ b x g l. ap (λ (s : Slot). is_dir g s.main) (no_slot b x l);
  }

  root_descends : (g : Gfid) → g ≡ root → first_tree.descents g ≡ Some of_root
  root_descends g e = ap (λ (v : Bool). if v then Some of_root else None) ((exact_gfid g root).1 e)

  descended : (g : Gfid) (v : Bool) → same_gfid g root ≡ v → (if v then Some of_root else None) ≢ None → g ≡ root
  descended g true e some = (exact_gfid g root).0 e
  descended g false e some = absurd (some refl)

  things_new : (top : ℕ) → Things d first_tree top no_claims
  things_new top = record {
    names = λ x. (Bare, record { fits = tt; has = λ b l. ap core (no_slot b x l); node = refl });
    files = λ f. file_new f top;
    dirs = λ g. dir_alone d root_alone g (same_gfid g root) (first_tree.descents g) (root_home g) (λ e. ap depth_in (root_descends g e));
    locks = lock_new;
    housed = λ x b l ne. absurd (ne (no_slot b x l));
    roots = λ b l. root_at b root l;
  }

  -- nothing is used but the root, which no call made
  only_root : (g : Gfid) → Used d first_tree g → g ≡ root
  only_root g (ByBytes h) = absurd (h refl)
  only_root g (ByDir h) = (exact_gfid g root).0 h
  only_root g (ByDescent h) = descended g (same_gfid g root) refl h
  only_root g (ByRecord b r l h) = absurd (none_some (file_at d b g) r (no_file b g l) h)
  only_root g (ByCopy b l h) = (exact_gfid g root).0 (sym (root_at b g l) ∙ h)
  only_root g (BySeal h) = absurd (true_false (view_of d g).sealed h (no_seal g))

  root_unmade : (c : ClientNo) (k : CallNo) (g : Gfid) → g ≡ root → IsOwn 1 c k g → ⊥
  root_unmade c k g e own = not_made c.0 k.0 own.0 (ap (λ (x : Gfid). x.0) (sym own.2 ∙ e))
    where
      not_made : (c k h : ℕ) → (1 * 65536 + c) * 1208925819614629174706176 + (k * 65536 + h) ≡ 1 → ⊥
      not_made c k h e = omega arith

  range_new : HasWeight ws → d.count ≡ length ws → (b : ℕ) → b < d.count → range_at d root b ≡ slice_index_or (planned ws root) b None
  range_new heavy count b l =
      let o = slice_index_or (planned ws root) b None in
      let size = planned_length ws root in
      ap (λ (c : Contents). range_of (dir c.store root)) (new.contents b l)
      ∙ (ap range_of (root_first (value_of o)) ∙ range_back o (planned_valid ws root heavy b None (omega arith)))

  -- each record is the root's, with the planned range
  planned_at : HasWeight ws → d.count ≡ length ws → (g : Gfid) (b : ℕ) (r : DirRecord) → b < d.count → dir_at d b g ≡ Some r → range_of (Some r) ≡ slice_index_or (planned ws g) b None
  planned_at heavy count g b r l h =
      let at_root : g ≡ root = (exact_gfid g root).0 (sym (root_at b g l) ∙ ap is_some h) in
      ap range_of (sym h) ∙ (ap (λ (x : Gfid). range_at d x b) at_root
      ∙ (range_new heavy count b l ∙ ap (λ (x : Gfid). slice_index_or (planned ws x) b None) (sym at_root)))

  pub new_invariant : HasWeight ws → d.count ≡ length ws → d.count ≤ 32 → Invariant d (with_line start (Volume ws)) no_claims
  new_invariant heavy count few = record {
    things = things_new _;
    heavy = heavy;
    some_brick = some;
    counted = count;
    few = few;
    tree = first_is_tree;
    counts = record {
      listed = λ c r e. absurd (let z : None ≡ Some r = e in cc);
      calling = λ c l. absurd l;
      numbered = λ c r e. absurd (let z : None ≡ Some r = e in cc);
      from_one = λ c r e. absurd (let z : None ≡ Some r = e in cc);
      alone = λ c w r e first last ne. refl;
    };
    point = point_with_line start (Volume ws);
    known = λ g c k l u own. absurd (root_unmade c k g (only_root g u) own);
    fresh = λ c r g l e none own u. absurd (let z : None ≡ Some r = e in cc);
  }

  pub new_early : HasWeight ws → d.count ≡ length ws → Early d (with_line start (Volume ws))
  new_early heavy count = record {
    plain = λ x b l. inl (ap core (no_slot b x l));
    unmoved = λ f b r l h. absurd (none_some (file_at d b f) r (no_file b f l) h);
    unopened = λ b r l. ap (λ (c : Contents). contains_key c.opens.registered r) (new.contents b l) ∙ ap is_some (get-empty registration_cmp r);
    planned = λ g first b r l h. inr (ap bounds (planned_at heavy count g b r l h));
    held = λ x b f first l h. absurd (none_some (name_at d b x) f (ap file_in (no_slot b x l)) h);
    unlinked = λ x b first l. subst HasNone (sym (no_slot b x l)) refl;
    earlier = λ g u. subst (λ (x : Gfid). run_of x ≤ 1) (sym (only_root g u)) (omega arith);
  }
