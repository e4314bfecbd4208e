-- Bricks that are mounted anew, all of them or some, and those that come.
use Rattle.std.proofs.Common.{◌≡◌, ◌<◌, ◌≤◌, ◌-◌, ◌+◌, ◌⊎◌, ℕ, Bool, true, false, refl, sym, ◌∙◌, ap, subst, inl, inr, arith, zero, suc, List, [], ◌∷◌, ◌++◌, length, length-append}
use Rattle.std.specs.Prelude.{Option, Some, None, map, slice_get, not}
use Rattle.std.specs.FinMap.{get-empty}
use Rattle.std.proofs.lemmas.Bool.{cases_lt}
use Rattle.dht_types.specs.Volume.{VolumeInfo, replay_info}
use Rattle.dht_brick.specs.Bricks.{BrickState}
use Rattle.dht_brick.specs.Contents.{Contents, dir, gfid_cmp}
use Rattle.dht_brick.specs.Events.{remounted}
use Rattle.dht_invariant.specs.Remount.{NoDirAbove, Remounts, RemountsInPart}
use Rattle.dht_world.specs.Bricks.{disk_of, journals_of, contents_at, journal_at, IsReady, ReadyAt, AreReady, AreReadyInEither, volume_of, AreFresh, no_range, remounted_in, SomeBecame}
use Rattle.dht_world.proofs.BrickLaws.{IsMapped, mapped_at, mapped_length, contents_mapped, journals_mapped, ready_mapped, ready_remounted, nothing_beyond, there_is, none_at}
use Rattle.dht_world.proofs.NewbornLaws.{new_contents, nothing_served, new_ready}

pub get_left :
    {A : Type 0} (xs ys : List A) (i : ℕ) → i < length xs → slice_get (xs ++ ys) i ≡ slice_get xs i
get_left [] ys i l = absurd (omega arith)
get_left (x ∷ xs) ys zero l = refl
get_left (x ∷ xs) ys (suc i) l = get_left xs ys i (omega arith)

pub get_right :
    {A : Type 0} (xs ys : List A) (i : ℕ) → slice_get (xs ++ ys) (length xs + i) ≡ slice_get ys i
get_right [] ys i = ap (slice_get ys) (let z : 0 + i ≡ i = omega arith in z)
get_right (x ∷ xs) ys i = ap (slice_get (x ∷ (xs ++ ys))) (let z : suc (length xs) + i ≡ suc (length xs + i) = omega arith in z) ∙ get_right xs ys i

-- where there is no brick there is no directory
no_dir_above :
    {B : Type 0} (state : B → BrickState) (bricks : List B) → NoDirAbove (disk_of state bricks)
no_dir_above state bricks b g l = ap (λ (c : Contents). dir c.store g) (nothing_beyond state bricks b l) ∙ get-empty gfid_cmp g

-- ---- all were mounted anew, and the others came

module _ {B : Type 0} (state : B → BrickState) (ws : List ℕ) (run : ℕ) (xs ys fresh : List B) (mounted : map state ys ≡ map (remounted_in (replay_info ws run)) (map state xs)) (new : AreFresh state (length xs) ws run fresh) (more : length xs ≤ length ws) where
  abbrev v : VolumeInfo
  v = replay_info ws run

  same_count : length ys ≡ length xs
  same_count = mapped_length (remounted_in v) state xs ys mounted

  all_count : length (ys ++ fresh) ≡ length ws
  all_count = length-append ys fresh ∙ (let a = same_count in let b = new.many in omega arith)

  mapped : (b : ℕ) → IsMapped (remounted_in v) state (slice_get xs b) (slice_get ys b)
  mapped b = mapped_at (remounted_in v) state xs ys mounted b

  old_place : (b : ℕ) → b < length xs → slice_get (ys ++ fresh) b ≡ slice_get ys b
  old_place b l = get_left ys fresh b (let a = same_count in omega arith)

  new_place : (b : ℕ) → length xs ≤ b → slice_get (ys ++ fresh) b ≡ slice_get fresh (b - length xs)
  new_place b l = ap (slice_get (ys ++ fresh)) (let a = same_count in let z : b ≡ length ys + (b - length xs) = omega arith in z) ∙ get_right ys fresh (b - length xs)

  pub mounts : Remounts ws (disk_of state xs) (disk_of state (ys ++ fresh))
  mounts = record {
    count = all_count;
    more = (let a = all_count in omega arith);
    old = λ b l. ap (contents_at state) (old_place b l) ∙ contents_mapped (remounted_in v) state remounted (λ s. refl) (slice_get xs b) (slice_get ys b) (mapped b) (there_is xs b l);
    new = λ b l k. ap (contents_at state) (new_place b l) ∙ new_contents state v no_range (length xs) fresh new.new (b - length xs) (let a = all_count in let m = new.many in omega arith);
    above_before = no_dir_above state xs;
    above = no_dir_above state (ys ++ fresh);
  }

  pub mount_journals : journals_of state (ys ++ fresh) ≡ journals_of state xs
  mount_journals = λ i. λ b. at b i
    where
      at : (b : ℕ) → journals_of state (ys ++ fresh) b ≡ journals_of state xs b
      at b = elim (cases_lt b (length xs)) [
        | inl l ↦ ap (journal_at state) (old_place b l) ∙ ap (λ (js : ℕ → List Rattle.dht_brick.specs.declared.journal.JournalEntry.JournalEntry). js b) (journals_mapped (remounted_in v) state (λ s. refl) xs ys mounted)
        | inr l ↦ ap (journal_at state) (new_place b l) ∙ (nothing_served state v no_range (length xs) fresh new.new (b - length xs) ∙ sym (ap (journal_at state) (none_at xs b l)))
      ]

  pub mount_ready : (before : List ℕ) (last : ℕ) (down : ℕ → Bool) → AreReady state before last down xs → ((b : ℕ) → length xs ≤ b → down b ≡ false) → AreReady state ws run down (ys ++ fresh)
  mount_ready before last down ready up b =
      subst (λ (n : ℕ). ReadyAt state (volume_of n ws run) (not (down b)) b (slice_get (ys ++ fresh) b)) (sym all_count) (elim (cases_lt b (length xs)) [
        | inl l ↦ subst (ReadyAt state v (not (down b)) b) (sym (old_place b l))
            (ready_mapped (remounted_in v) state (volume_of (length xs) before last) v (not (down b)) b (λ s r. ready_remounted (volume_of (length xs) before last) v (not (down b)) b s r) (slice_get xs b) (slice_get ys b) (mapped b) (ready b))
        | inr l ↦ subst (ReadyAt state v (not (down b)) b) (sym (new_place b l))
            (subst (λ (u : Bool). ReadyAt state v (not u) b (slice_get fresh (b - length xs))) (sym (up b l))
            (subst (λ (m : ℕ). ReadyAt state v true m (slice_get fresh (b - length xs))) (let z : length xs + (b - length xs) ≡ b = omega arith in z)
            (new_ready state v no_range (length xs) fresh new.new (b - length xs))))
      ])

-- ---- some were mounted anew

module _ {B : Type 0} (state : B → BrickState) (v : VolumeInfo) where
  -- what stands at one place of two lists, where some became so
  IsEither : Option B → Option B → Type 0
  IsEither None None = Unit {0}
  IsEither (Some x) (Some y) = (state y ≡ state x) ⊎ (state y ≡ remounted_in v (state x))
  IsEither x y = ⊥

  some_at : (xs ys : List B) → SomeBecame (remounted_in v) (map state xs) (map state ys) → (i : ℕ) → IsEither (slice_get xs i) (slice_get ys i)
  unfolding IsEither
  some_at [] [] h i = tt
  some_at [] (y ∷ ys) h i = absurd h
  some_at (x ∷ xs) [] h i = absurd h
  some_at (x ∷ xs) (y ∷ ys) h zero = h.0
  some_at (x ∷ xs) (y ∷ ys) h (suc i) = some_at xs ys h.1 i

  pub some_length : (xs ys : List B) → SomeBecame (remounted_in v) (map state xs) (map state ys) → length ys ≡ length xs
  some_length [] [] h = refl
  some_length [] (y ∷ ys) h = absurd h
  some_length (x ∷ xs) [] h = absurd h
  some_length (x ∷ xs) (y ∷ ys) h = ap suc (some_length xs ys h.1)

  either_contents : (x y : Option B) → IsEither x y → (contents_at state y ≡ contents_at state x) ⊎ (contents_at state y ≡ remounted (contents_at state x))
  unfolding IsEither
  either_contents None None h = inl refl
  either_contents None (Some y) h = absurd h
  either_contents (Some x) None h = absurd h
  either_contents (Some x) (Some y) h = elim h [
    | inl e ↦ inl (ap (λ (s : BrickState). s.contents) e)
    | inr e ↦ inr (ap (λ (s : BrickState). s.contents) e)
  ]

  either_journal : (x y : Option B) → IsEither x y → journal_at state y ≡ journal_at state x
  unfolding IsEither
  either_journal None None h = refl
  either_journal None (Some y) h = absurd h
  either_journal (Some x) None h = absurd h
  either_journal (Some x) (Some y) h = elim h [
    | inl e ↦ ap (λ (s : BrickState). s.journal) e
    | inr e ↦ ap (λ (s : BrickState). s.journal) e
  ]

  either_ready : (known : VolumeInfo) (u : Bool) (b : ℕ) (x y : Option B) → IsEither x y → ReadyAt state known u b x → ReadyAt state known u b y ⊎ ReadyAt state v u b y
  unfolding IsEither
  either_ready known u b None None h r = inl tt
  either_ready known u b None (Some y) h r = absurd h
  either_ready known u b (Some x) None h r = absurd h
  either_ready known u b (Some x) (Some y) h r = elim h [
    | inl e ↦ inl (subst (IsReady known u b) (sym e) r)
    | inr e ↦ inr (subst (IsReady v u b) (sym e) (ready_remounted known v u b (state x) r))
  ]

  module _ (xs ys : List B) (some : SomeBecame (remounted_in v) (map state xs) (map state ys)) where
    pub part_mounts : RemountsInPart (disk_of state xs) (disk_of state ys)
    part_mounts = record {
      count = some_length xs ys some;
      bricks = λ b. either_contents (slice_get xs b) (slice_get ys b) (some_at xs ys some b);
    }

    pub part_journals : journals_of state ys ≡ journals_of state xs
    part_journals = λ i. λ b. either_journal (slice_get xs b) (slice_get ys b) (some_at xs ys some b) i

    pub part_ready : (ws : List ℕ) (run : ℕ) (down : ℕ → Bool) → AreReady state ws run down xs → AreReadyInEither state (volume_of (length ys) ws run) v down ys
    part_ready ws run down ready b =
        subst (λ (n : ℕ). ReadyAt state (volume_of n ws run) (not (down b)) b (slice_get ys b) ⊎ ReadyAt state v (not (down b)) b (slice_get ys b)) (sym (some_length xs ys some))
        (either_ready (volume_of (length xs) ws run) (not (down b)) b (slice_get xs b) (slice_get ys b) (some_at xs ys some b) (ready b))
