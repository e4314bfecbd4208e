-- What all bricks show of a thing that a request does not name is as it was.
use Rattle.std.proofs.Common.{◌≡◌, ◌≢◌, ℕ, Bool, true, false, cond, length, refl, sym, ap, ◌∙◌, subst, inl, inr, ◌⊎◌}
use Rattle.std.specs.Prelude.{Option, Some, None, is_some, count_by}
use Rattle.std.specs.FinMap.{FinMap, get, entries, keys, retain_keys, get-retain_keys, same_map}
use Rattle.std.proofs.lemmas.List.Sums.{length-filter}
use Rattle.dht_types.specs.Gfid.{Entry, anchor, root, same_gfid}
use Rattle.dht_types.proofs.PutLaws.{exact_gfid}
use Rattle.dht_types.specs.declared.identifiers.Gfid.{Gfid}
use Rattle.dht_types.specs.declared.locks.Key.{Key}
use Rattle.dht_types.specs.declared.stored.DirRecord.{DirRecord}
use Rattle.dht_types.specs.declared.stored.Main.{Main}
use Rattle.dht_types.specs.declared.stored.Main.TheVariants.{Dir, File, Linkto}
use Rattle.dht_types.specs.declared.stored.Slot.{Slot}
use Rattle.dht_brick.proofs.TableLemmas.{count_by-map, is_some-option_map}
use Rattle.dht_brick.specs.Contents.{Contents, Store, Opens, dir, file, slot, registration_cmp}
use Rattle.dht_brick.specs.OpenRows.{registrations, is_sealed}
use Rattle.dht_brick.specs.Parts.{is_copy, is_dir, is_file, is_plain, is_standlink}
use Rattle.dht_brick.specs.declared.opens.Registration.{Registration}
use Rattle.dht_section.specs.Disk.{Disk, ChangesOneBrick, slot_at, dir_at, holders}
use Rattle.dht_section.specs.Views.{core, links_to, view_of, dir_view}
use Rattle.dht_invariant.specs.Laws.{RequestsAreLocal}
use Rattle.dht_invariant.specs.Locality.{Reach, SlotStays, Same, Went, ChangesWithin, NamesFile, ByFileRecord, ByFileName, ByRegistration, BySeal, NamesDir, ByDirRecord, ByDirName, ByParent, NamesLock, SameDir, ShowsTheSame, depth_in, is_of, reach}
use Rattle.dht_invariant.proofs.Basics.{not_true, other_some}
use Rattle.dht_section.proofs.SlotLaws.{entry_cases}
use Rattle.dht_invariant.proofs.Frames.{brick_by, brick_is, kept_by, links_core, plain_core, dir_core}
use Rattle.dht_invariant.proofs.RegistrationLaws.{entries_kept, registration_total, registration_exact}
use Rattle.dht_invariant.proofs.RowLocality.{rows_are_local, or_false}

-- ---- how many registrations a file has, by the file's alone

module _ (f : Gfid) where
  abbrev is_its : Registration → Bool
  is_its r = same_gfid f r.file

  counted : (m : FinMap registration_cmp (Unit {0})) → count_by is_its (keys m) ≡ length (entries (retain_keys m is_its))
  counted m =
      count_by-map is_its (λ (e : Registration × Unit {0}). e.0) (entries m)
      ∙ (sym (length-filter (λ (e : Registration × Unit {0}). is_its e.0) (entries m))
      ∙ ap length (sym (entries_kept registration_total registration_exact m is_its)))

  kept_same : (m n : FinMap registration_cmp (Unit {0})) → ((r : Registration) → is_its r ≡ true → get n r ≡ get m r) → retain_keys n is_its ≡ retain_keys m is_its
  kept_same m n same = same_map registration_total registration_exact (retain_keys n is_its) (retain_keys m is_its)
      (λ q. get-retain_keys n is_its q (λ x t. ap is_its (sym (registration_exact q x t)))
      ∙ (by q (is_its q) refl ∙ sym (get-retain_keys m is_its q (λ x t. ap is_its (sym (registration_exact q x t))))))
    where
      by : (q : Registration) (v : Bool) → is_its q ≡ v → cond v (get n q) None ≡ cond v (get m q) None
      by q true e = same q e
      by q false e = refl

  registrations_same : (o n : Opens) → ((r : Registration) → r.file ≡ f → get n.registered r ≡ get o.registered r) → registrations n f ≡ registrations o f
  unfolding registrations
  registrations_same o n same =
      counted n.registered
      ∙ (ap (λ m. length (entries m)) (kept_same o.registered n.registered (λ r e. same r (sym ((exact_gfid f r.file).0 e))))
      ∙ sym (counted o.registered))

-- ---- slots of which the file or the directory is not

plain_file : (f : Gfid) (m : Option Main) → is_file f m ≡ false → is_plain f m ≡ false
plain_file f None e = refl
plain_file f (Some (Dir g)) e = refl
plain_file f (Some (File g None)) e = e
plain_file f (Some (File g (Some b))) e = refl
plain_file f (Some (Linkto value)) e = refl

-- what a slot shows of a file
record Shows (f : Gfid) (p q : Slot) : Type 0 where
  links : links_to f q ≡ links_to f p
  unmarked : is_plain f q.main ≡ is_plain f p.main
  copies : is_copy f q.standby ≡ is_copy f p.standby

-- of two slots that are not its nothing is shown
neither_shows : (f : Gfid) (p q : Slot) → is_of f p ≡ false → is_of f q ≡ false → Shows f p q
neither_shows f p q e k =
    let a = or_false (links_to f p) (is_copy f p.standby) e in
    let b = or_false (links_to f q) (is_copy f q.standby) k in
    record {
      links = b.0 ∙ sym a.0;
      unmarked = plain_file f q.main (or_false (is_file f q.main) (is_standlink f q.standby) b.0).0 ∙ sym (plain_file f p.main (or_false (is_file f p.main) (is_standlink f p.standby) a.0).0);
      copies = b.1 ∙ sym a.1;
    }

-- and two slots of the same core show the same
core_shows : (f : Gfid) (p q : Slot) → core q ≡ core p → Shows f p q
core_shows f p q e = record {
  links = links_core f q ∙ (ap (links_to f) e ∙ sym (links_core f p));
  unmarked = plain_core f q.main ∙ (ap (λ (x : Slot). is_plain f x.main) e ∙ sym (plain_core f p.main));
  copies = ap (λ (x : Slot). is_copy f x.standby) e;
}

stays_core :
    (old new : Store) (x : Entry) → SlotStays old new x → core (slot new x) ≡ core (slot old x)
stays_core old new x (Same e l) = ap core e
stays_core old new x (Went e k) = ap core k ∙ sym e

slot_cases : (o : Option Entry) (x : Entry) → (o ≡ Some x) ⊎ (o ≢ Some x)
slot_cases None x = inr (λ k. let z : None ≡ Some x = k in cc)
slot_cases (Some y) x = elim (entry_cases x y) [
  | inl e ↦ inl (ap Some (sym e))
  | inr ne ↦ inr (other_some y x ne)
]

-- ---- all bricks, where one changed within a reach

module _ (p : Reach) (b : ℕ) (d e : Disk) (new : Contents) (m : ChangesOneBrick d b new e) (h : ChangesWithin p (d.brick b) new) where
  new_is : e.brick b ≡ new
  new_is = brick_is d e b new m

  stays : {X : Type 0} (g : Contents → X) → g new ≡ g (d.brick b) → (i : ℕ) → g (e.brick i) ≡ g (d.brick i)
  stays g same i = kept_by g d e b new m same i

  slots : (x : Entry) (i : ℕ) → p.stored.slot ≢ Some x → SlotStays (d.brick i).store (e.brick i).store x
  slots x i ne = brick_by (λ c. SlotStays (d.brick i).store c.store x) d e b new i m
      (λ q. subst (λ (j : ℕ). SlotStays (d.brick j).store new.store x) (sym q) (h.slots x ne))
      (λ apart. Same refl (λ l. l))

  shows : (f : Gfid) → (NamesFile p b d e f → ⊥) → (i : ℕ) (x : Entry) → Shows f (slot_at d i x) (slot_at e i x)
  shows f out i x = elim (slot_cases p.stored.slot x) [
    | inl named ↦ brick_by (λ c. Shows f (slot_at d i x) (slot c.store x)) d e b new i m
        (λ q. subst (λ (j : ℕ). Shows f (slot_at d j x) (slot new.store x)) (sym q)
        (neither_shows f (slot_at d b x) (slot new.store x)
        (not_true (is_of f (slot_at d b x)) (λ z. out (ByFileName x named (inl z))))
        (not_true (is_of f (slot new.store x)) (λ z. out (ByFileName x named (inr (ap (λ (c : Contents). is_of f (slot c.store x)) new_is ∙ z)))))))
        (λ apart. core_shows f (slot_at d i x) (slot_at d i x) refl)
    | inr ne ↦ core_shows f (slot_at d i x) (slot_at e i x) (stays_core (d.brick i).store (e.brick i).store x (slots x i ne))
  ]

  files : (f : Gfid) → (NamesFile p b d e f → ⊥) → view_of e f ≡ view_of d f
  files f out =
      let at : anchor f e.count ≡ anchor f d.count = ap (anchor f) m.count in
      let opened : registrations (e.brick (anchor f e.count)).opens f ≡ registrations (d.brick (anchor f d.count)).opens f =
      ap (λ (i : ℕ). registrations (e.brick i).opens f) at
      ∙ stays (λ c. registrations c.opens f) (registrations_same f (d.brick b).opens new.opens (λ r q. h.registrations r (λ k. out (ByRegistration r k q)))) (anchor f d.count) in
      let sealed : is_sealed (e.brick (anchor f e.count)).opens f ≡ is_sealed (d.brick (anchor f d.count)).opens f =
      ap (λ (i : ℕ). is_sealed (e.brick i).opens f) at
      ∙ stays (λ c. is_sealed c.opens f) (ap is_some (h.seals f (λ k. out (BySeal k)))) (anchor f d.count) in
      λ j. record {
        records = λ i. stays (λ c. file c.store f) (h.store.files f (λ k. out (ByFileRecord k))) i j;
        links = λ i x. (shows f out i x).links j;
        unmarked = λ i x. (shows f out i x).unmarked j;
        copies = λ i x. (shows f out i x).copies j;
        opened = opened j;
        sealed = sealed j;
      }

  main_same : (g : Gfid) → (NamesDir p b d e g → ⊥) → (i : ℕ) (x : Entry) → is_dir g (slot_at e i x).main ≡ is_dir g (slot_at d i x).main
  main_same g out i x = elim (slot_cases p.stored.slot x) [
    | inl named ↦ stays (λ c. is_dir g (slot c.store x).main)
        (not_true (is_dir g (slot new.store x).main) (λ z. out (ByDirName x named (inr (ap (λ (c : Contents). is_dir g (slot c.store x).main) new_is ∙ z))))
        ∙ sym (not_true (is_dir g (slot_at d b x).main) (λ z. out (ByDirName x named (inl z))))) i
    | inr ne ↦ dir_core g (slot_at e i x) ∙ (ap (λ (q : Slot). is_dir g q.main) (stays_core (d.brick i).store (e.brick i).store x (slots x i ne)) ∙ sym (dir_core g (slot_at d i x)))
  ]

  dirs : (g : Gfid) → (NamesDir p b d e g → ⊥) → SameDir (dir_view d g) (dir_view e g)
  dirs g out = record {
    copies = λ j i. stays (λ c. dir c.store g) (h.store.dirs g (λ k. out (ByDirRecord k))) i j;
    mains = λ j i x. main_same g out i x j;
    above = λ i r k there place. brick_by (λ c. depth_in c.store k.dir ≡ depth_in (d.brick i).store k.dir) d e b new i m
        (λ q. h.depths k.dir (λ z. out (ByParent r k (ap (λ (j : ℕ). dir_at d j g) (sym q) ∙ there) place z)) ∙ ap (λ (j : ℕ). depth_in (d.brick j).store k.dir) (sym q))
        (λ apart. refl);
  }

  locks : (i : ℕ) (key : Key) → (NamesLock p b i key → ⊥) → holders e i key ≡ holders d i key
  locks i key out = λ j w. hold w j
    where
      hold : (w : ℕ) → holders e i key w ≡ holders d i key w
      hold w = brick_by (λ c. c.locks key w ≡ holders d i key w) d e b new i m
          (λ q. h.locks key w (λ k. out (record { there = q; client = w; hold = k })) ∙ ap (λ (j : ℕ). holders d j key w) (sym q))
          (λ apart. refl)

  roots : (i : ℕ) → p.turned ≢ Some root → is_some (dir_at e i root) ≡ is_some (dir_at d i root)
  roots i ne = stays (λ c. is_some (dir c.store root))
      (sym (is_some-option_map (λ (r : DirRecord). r.depth) (dir new.store root)) ∙ (ap is_some (h.depths root ne) ∙ is_some-option_map (λ (r : DirRecord). r.depth) (dir_at d b root))) i

  pub shows_the_same : ShowsTheSame p b d e
  shows_the_same = record {
    count = m.count;
    names = λ x ne j i. stays_core (d.brick i).store (e.brick i).store x (slots x i ne) j;
    slots = slots;
    files = files;
    dirs = dirs;
    locks = locks;
    roots = roots;
  }

pub requests_are_local : RequestsAreLocal
requests_are_local client call b q d e c = shows_the_same (reach client call q (d.brick b).store) b d e c.new c.disk (rows_are_local c.bricks client call q (d.brick b) c.new c.given c.done)
