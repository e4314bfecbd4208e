-- Bricks in a list as a disk, and their journals.
use Rattle.std.proofs.Common.{◌≡◌, ◌≢◌, ◌<◌, ◌≤◌, ◌↔◌, ℕ, Bool, true, false, refl, sym, ◌∙◌, ap, subst, inl, inr, arith, zero, suc, List, [], ◌∷◌, ◌++◌, length, get_or}
use Rattle.std.specs.Prelude.{Option, Some, None, map, slice_get, slice_set, nat_eq, not}
use Rattle.std.proofs.Math.ListN.{length-set}
use Rattle.std.proofs.lemmas.Option.{slice_get_read}
use Rattle.dht_types.specs.Put.{put}
use Rattle.dht_types.proofs.VolumeLemmas.{length-replay_names}
use Rattle.dht_types.proofs.PutLaws.{put_elim, put_same, put_other, exact_nat}
use Rattle.dht_types.specs.Gfid.{Entry}
use Rattle.dht_types.specs.Tree.{Descent, IsTree, of_root}
use Rattle.dht_types.specs.declared.identifiers.ClientNo.{ClientNo}
use Rattle.dht_types.specs.declared.identifiers.Gfid.{Gfid}
use Rattle.dht_types.specs.declared.identifiers.CallNo.{CallNo}
use Rattle.dht_types.specs.Volume.{VolumeInfo, replay_names}
use Rattle.dht_brick.specs.Bricks.{BrickState, ServesRequest, ServesOrFails, is_unreachable, unless_down}
use Rattle.dht_brick.specs.Contents.{Contents}
use Rattle.dht_brick.specs.Named.{entry_of}
use Rattle.dht_brick.specs.Events.{freed}
use Rattle.dht_brick.specs.Rows.{row}
use Rattle.dht_brick.specs.Within.{MayBeMade, MayBeSent}
use Rattle.dht_brick.specs.declared.journal.JournalEntry.{JournalEntry}
use Rattle.dht_brick.specs.declared.requests.FileRequest.TheVariants.{Drop}
use Rattle.dht_brick.specs.declared.requests.NameRequest.TheVariants.{Look, Dirinfo, SetLayout, MakeDir, DropDir, Create, MakeLinkto, DropLinkto, Unlink}
use Rattle.dht_brick.specs.declared.requests.Request.{Request}
use Rattle.dht_brick.specs.declared.requests.Request.TheVariants.{Lock, Unlock, Seal, OnNames, OnFile}
use Rattle.dht_brick.specs.declared.replies.Reply.{Reply}
use Rattle.dht_brick.specs.declared.replies.Reply.TheVariants.{Down, Failed}
use Rattle.dht_section.specs.declared.machine.Ask.{Ask}
use Rattle.dht_section.specs.Permits.{May, Changes}
use Rattle.dht_section.specs.Invariant.Used.{ByDir}
use Rattle.dht_section.specs.Scene.{Scene}
use Rattle.dht_section.specs.Shapes.{NameFits}
use Rattle.dht_invariant.specs.Transition.{FreesClient}
use Rattle.dht_world.proofs.LineLaws.{nat_cases}
use Rattle.dht_world.specs.Bricks.{nothing, disk_of, journals_of, contents_at, journal_at, IsReady, ReadyAt, AreReady, volume_of, without_client, remounted_in, SomeBecame, ServedAt}

pub get_set_same :
    {A : Type 0} (xs : List A) (c : ℕ) (v : A) → c < length xs
    → slice_get (slice_set xs c v) c ≡ Some v
get_set_same [] c v h = absurd (omega arith)
get_set_same (x ∷ xs) zero v h = refl
get_set_same (x ∷ xs) (suc c) v h = get_set_same xs c v (omega arith)

pub get_set_other :
    {A : Type 0} (xs : List A) (c : ℕ) (v : A) (i : ℕ) → i ≢ c
    → slice_get (slice_set xs c v) i ≡ slice_get xs i
get_set_other [] c v i h = refl
get_set_other (x ∷ xs) zero v zero h = absurd (h refl)
get_set_other (x ∷ xs) zero v (suc i) h = refl
get_set_other (x ∷ xs) (suc c) v zero h = refl
get_set_other (x ∷ xs) (suc c) v (suc i) h = get_set_other xs c v i (λ e. h (ap suc e))

-- what a list of bricks shows at each place, where one of them is set
set_at :
    {B X : Type 0} (show : Option B → X) (bricks : List B) (b : ℕ) (x : B) → b < length bricks
    → (i : ℕ)
    → show (slice_get (slice_set bricks b x) i)
    ≡ put nat_eq (λ j. show (slice_get bricks j)) b (show (Some x)) i
set_at show bricks b x l i = put_elim (λ y. show (slice_get (slice_set bricks b x) i) ≡ y) nat_eq exact_nat (λ j. show (slice_get bricks j)) b (show (Some x)) i
    (λ e. subst (λ (j : ℕ). show (slice_get (slice_set bricks b x) j) ≡ show (Some x)) (sym e) (ap show (get_set_same bricks b x l)))
    (λ ne. ap show (get_set_other bricks b x i ne))

-- ---- one brick that is ready

-- a reply of a brick that does not fail
not_failed :
    (volume : VolumeInfo) (u : Bool) (b : ℕ) (c : ClientNo) (k : CallNo) (q : Request)
    (old : BrickState) (r : Reply) (new : BrickState)
    → IsReady volume u b old → ServesRequest c k q old r new → r ≢ Failed
not_failed volume u b c k q old r new h v = λ e. let z : false ≡ true = sym h.unarmed ∙ v.cause e h.faultless in cc

still_false : (r : Reply) (b : Bool) → b ≡ false → unless_down r b false ≡ false
still_false Down b e = e
still_false r b e = refl

-- it stays ready
ready_then :
    (volume : VolumeInfo) (u : Bool) (b : ℕ) (c : ClientNo) (k : CallNo) (q : Request)
    (old : BrickState) (r : Reply) (new : BrickState)
    → IsReady volume u b old → ServesRequest c k q old r new → IsReady volume u b new
ready_then volume u b c k q old r new h v = record {
  number = ap (λ (s : BrickState). s.number) v.same ∙ h.number;
  up = ap (λ (s : BrickState). s.is_up) v.same ∙ h.up;
  unarmed = v.disarmed ∙ still_false r old.is_armed h.unarmed;
  faultless = ap (λ (s : BrickState). s.is_faultless) v.same ∙ h.faultless;
  volume = ap (λ (s : BrickState). s.volume) v.same ∙ h.volume;
}

-- with more room it is as it was
pub ready_roomy :
    (volume : VolumeInfo) (u : Bool) (b : ℕ) (old mid : BrickState)
    → mid ≡ record old { spare = mid.spare } → IsReady volume u b old → IsReady volume u b mid
ready_roomy volume u b old mid e h = record {
  number = ap (λ (s : BrickState). s.number) e ∙ h.number;
  up = ap (λ (s : BrickState). s.is_up) e ∙ h.up;
  unarmed = ap (λ (s : BrickState). s.is_armed) e ∙ h.unarmed;
  faultless = ap (λ (s : BrickState). s.is_faultless) e ∙ h.faultless;
  volume = ap (λ (s : BrickState). s.volume) e ∙ h.volume;
}

-- it went down, or came back
ready_up :
    (volume : VolumeInfo) (u v : Bool) (b : ℕ) (old new : BrickState)
    → new ≡ record old { is_up = v } → IsReady volume u b old → IsReady volume v b new
ready_up volume u v b old new e h = record {
  number = ap (λ (s : BrickState). s.number) e ∙ h.number;
  up = ap (λ (s : BrickState). s.is_up) e;
  unarmed = ap (λ (s : BrickState). s.is_armed) e ∙ h.unarmed;
  faultless = ap (λ (s : BrickState). s.is_faultless) e ∙ h.faultless;
  volume = ap (λ (s : BrickState). s.volume) e ∙ h.volume;
}

-- a client died
ready_freed :
    (volume : VolumeInfo) (u : Bool) (b c : ℕ) (s : BrickState) → IsReady volume u b s
    → IsReady volume u b (without_client c s)
ready_freed volume u b c s h = record { number = h.number; up = h.up; unarmed = h.unarmed; faultless = h.faultless; volume = h.volume }

-- it was mounted anew
pub ready_remounted :
    (v w : VolumeInfo) (u : Bool) (b : ℕ) (s : BrickState) → IsReady v u b s
    → IsReady w u b (remounted_in w s)
ready_remounted v w u b s h = record { number = h.number; up = h.up; unarmed = h.unarmed; faultless = h.faultless; volume = refl }

-- ---- bricks that are ready

pub brick_is :
    {B : Type 0} (bricks : List B) (b : ℕ) (old : B) → b < length bricks → old ≡ get_or bricks b old
    → slice_get bricks b ≡ Some old
brick_is bricks b old l was = slice_get_read bricks (length bricks) b old refl l was

module _ {B : Type 0} (state : B → BrickState) (ws : List ℕ) (run : ℕ) where
  pub ready_of : (down : ℕ → Bool) (bricks : List B) (b : ℕ) (old : B) → b < length bricks → old ≡ get_or bricks b old → AreReady state ws run down bricks → IsReady (volume_of (length bricks) ws run) (not (down b)) b (state old)
  ready_of down bricks b old l was h = subst (ReadyAt state (volume_of (length bricks) ws run) (not (down b)) b) (brick_is bricks b old l was) (h b)

  -- one brick is set; of the others as many are up as before
  pub ready_put : (down after : ℕ → Bool) (bricks : List B) (b : ℕ) (new : B) → b < length bricks → ((i : ℕ) → i ≢ b → after i ≡ down i) → AreReady state ws run down bricks → IsReady (volume_of (length bricks) ws run) (not (after b)) b (state new) → AreReady state ws run after (slice_set bricks b new)
  ready_put down after bricks b new l same h ready i =
      let volume = volume_of (length bricks) ws run in
      subst (λ (n : ℕ). ReadyAt state (volume_of n ws run) (not (after i)) i (slice_get (slice_set bricks b new) i)) (sym (length-set bricks b new)) (elim (nat_cases i b) [
        | inl e ↦ subst (λ (j : ℕ). ReadyAt state volume (not (after j)) j (slice_get (slice_set bricks b new) j)) (sym e) (subst (ReadyAt state volume (not (after b)) b) (sym (get_set_same bricks b new l)) ready)
        | inr ne ↦ subst (λ (v : Bool). ReadyAt state volume (not v) i (slice_get (slice_set bricks b new) i)) (sym (same i ne))
            (subst (ReadyAt state volume (not (down i)) i) (sym (get_set_other bricks b new i ne)) (h i))
      ])

  pub ready_set : (down : ℕ → Bool) (bricks : List B) (b : ℕ) (new : B) → b < length bricks → AreReady state ws run down bricks → IsReady (volume_of (length bricks) ws run) (not (down b)) b (state new) → AreReady state ws run down (slice_set bricks b new)
  ready_set down bricks b new l h ready = ready_put down down bricks b new l (λ i ne. refl) h ready

  -- a brick went down, or came back
  pub ready_down : (down : ℕ → Bool) (bricks : List B) (b : ℕ) (old new : B) (v : Bool) → b < length bricks → old ≡ get_or bricks b old → state new ≡ record (state old) { is_up = v } → AreReady state ws run down bricks → AreReady state ws run (put nat_eq down b (not v)) (slice_set bricks b new)
  ready_down down bricks b old new v l was e h =
      ready_put down (put nat_eq down b (not v)) bricks b new l (λ i ne. put_other nat_eq exact_nat down b (not v) i ne) h
      (subst (λ (x : Bool). IsReady (volume_of (length bricks) ws run) (not x) b (state new)) (sym (put_same nat_eq exact_nat down b (not v)))
      (subst (λ (x : Bool). IsReady (volume_of (length bricks) ws run) x b (state new)) (twice v)
      (ready_up (volume_of (length bricks) ws run) (not (down b)) v b (state old) (state new) e (ready_of down bricks b old l was h))))
    where
      twice : (x : Bool) → x ≡ not (not x)
      twice true = refl
      twice false = refl

  -- ---- one of them answered a request

  served_at : (down : ℕ → Bool) (bricks : List B) (c : ClientNo) (k : CallNo) (a : Ask) (old mid new : B) (r : Reply) → a.brick.0 < length bricks → old ≡ get_or bricks a.brick.0 old → AreReady state ws run down bricks → state mid ≡ record (state old) { spare = (state mid).spare } → ServesRequest c k a.request (state mid) r (state new) → ServedAt state down c k a bricks r (slice_set bricks a.brick.0 new)
  served_at down bricks c k a old mid new r l was ready room v =
      let here : slice_get bricks a.brick.0 ≡ Some old = brick_is bricks a.brick.0 old l was in
      let volume = volume_of (length bricks) ws run in
      let is = ready_roomy volume (not (down a.brick.0)) a.brick.0 (state old) (state mid) room (ready_of down bricks a.brick.0 old l was ready) in
      let content : (state mid).contents ≡ (disk_of state bricks).brick a.brick.0 = ap (λ (s : BrickState). s.contents) room ∙ sym (ap (contents_at state) here) in
      let journal : (state mid).journal ≡ journals_of state bricks a.brick.0 = ap (λ (s : BrickState). s.journal) room ∙ sym (ap (journal_at state) here) in
      record {
        after = (state new).contents;
        served = subst (λ (x : Contents). ServesOrFails (row (replay_names (length bricks)) c k a.request x) x r (state new).contents) content
            (subst (λ (names : List (List ℕ)). ServesOrFails (row names c k a.request (state mid).contents) (state mid).contents r (state new).contents) (ap (λ (known : VolumeInfo). known.names) is.volume) v.row);
        is_down = subst (λ (x : Bool). (r ≡ Down) ↔ (is_unreachable x a.request ≡ true)) is.up v.down;
        sound = not_failed volume (not (down a.brick.0)) a.brick.0 c k a.request (state mid) r (state new) is v;
        memory = v.memory;
        changes = record { count = length-set bricks a.brick.0 new; brick = λ i. λ j. set_at (contents_at state) bricks a.brick.0 new l j i };
        noted = (λ i. λ j. set_at (journal_at state) bricks a.brick.0 new l j i)
            ∙ ap (λ (x : List JournalEntry). put nat_eq (journals_of state bricks) a.brick.0 x) (v.journal ∙ ap (λ (x : List JournalEntry). unless_down r x (x ++ entry_of c k a.request r ∷ [])) journal);
      }

  -- as `serve_at` meets it: room was made first
  pub served_from : (down : ℕ → Bool) (bricks : List B) (c : ClientNo) (k : CallNo) (a : Ask) (old mid new : B) (r : Reply) (i : ℕ) → a.brick.0 < length bricks → i ≡ a.brick.0 → old ≡ get_or bricks i old → AreReady state ws run down bricks → state mid ≡ record (state old) { spare = (state mid).spare } → ServesRequest c k a.request (state mid) r (state new) → ServedAt state down c k a bricks r (slice_set bricks i new)
  served_from down bricks c k a old mid new r i l e was ready room v =
      subst (λ (j : ℕ). ServedAt state down c k a bricks r (slice_set bricks j new)) (sym e)
      (served_at down bricks c k a old mid new r l (subst (λ (j : ℕ). old ≡ get_or bricks j old) e was) ready room v)

  pub ready_from : (down : ℕ → Bool) (bricks : List B) (c : ClientNo) (k : CallNo) (q : Request) (old mid new : B) (r : Reply) (i : ℕ) → i < length bricks → old ≡ get_or bricks i old → AreReady state ws run down bricks → state mid ≡ record (state old) { spare = (state mid).spare } → ServesRequest c k q (state mid) r (state new) → AreReady state ws run down (slice_set bricks i new)
  ready_from down bricks c k q old mid new r i l was ready room v =
      ready_set down bricks i new l ready (ready_then (volume_of (length bricks) ws run) (not (down i)) i c k q (state mid) r (state new) (ready_roomy (volume_of (length bricks) ws run) (not (down i)) i (state old) (state mid) room (ready_of down bricks i old l was ready)) v)

  pub same_ready_at : (down : ℕ → Bool) (bricks : List B) (b : ℕ) (old new : B) → b < length bricks → old ≡ get_or bricks b old → state new ≡ state old → AreReady state ws run down bricks → AreReady state ws run down (slice_set bricks b new)
  same_ready_at down bricks b old new l was h ready = ready_set down bricks b new l ready (subst (IsReady (volume_of (length bricks) ws run) (not (down b)) b) (sym h) (ready_of down bricks b old l was ready))

  -- what may be sent to so many bricks may be sent to a ready one
  pub sent_from : (down : ℕ → Bool) (bricks : List B) (q : Request) (old mid : B) (i n : ℕ) → i < length bricks → old ≡ get_or bricks i old → AreReady state ws run down bricks → state mid ≡ record (state old) { spare = (state mid).spare } → n ≡ length bricks → MayBeSent n q → MayBeSent (length (state mid).volume.names) q
  sent_from down bricks q old mid i n l was ready room e h =
      let mid_ready = ready_roomy (volume_of (length bricks) ws run) (not (down i)) i (state old) (state mid) room (ready_of down bricks i old l was ready) in
      subst (λ (m : ℕ). MayBeSent m q) (e ∙ sym (ap (λ (known : VolumeInfo). length known.names) mid_ready.volume ∙ length-replay_names (length bricks))) h

-- ---- the same happened to each brick

pub length_mapped : {A X : Type 0} (f : A → X) (xs : List A) → length (map f xs) ≡ length xs
length_mapped f [] = refl
length_mapped f (x ∷ xs) = ap suc (length_mapped f xs)

pub there_is : {B : Type 0} (xs : List B) (i : ℕ) → i < length xs → slice_get xs i ≢ None
there_is [] i l = absurd (omega arith)
there_is (x ∷ xs) zero l = λ e. let z : Some x ≡ None = e in cc
there_is (x ∷ xs) (suc i) l = there_is xs i (omega arith)

pub none_at : {A : Type 0} (xs : List A) (c : ℕ) → length xs ≤ c → slice_get xs c ≡ None
none_at [] c l = refl
none_at (x ∷ xs) zero l = absurd (omega arith)
none_at (x ∷ xs) (suc c) l = none_at xs c (omega arith)

-- what happened to a brick
module _ (f : BrickState → BrickState) where
  -- it happened to the first so many of these, and the others are as they were
  pub first_mapped : ℕ → List BrickState → List BrickState
  first_mapped n [] = []
  first_mapped zero (x ∷ xs) = x ∷ xs
  first_mapped (suc n) (x ∷ xs) = f x ∷ first_mapped n xs

  pub none_mapped : (xs : List BrickState) → xs ≡ first_mapped zero xs
  unfolding first_mapped
  none_mapped [] = refl
  none_mapped (x ∷ xs) = refl

  pub all_mapped : (n : ℕ) (xs : List BrickState) → length xs ≤ n → first_mapped n xs ≡ map f xs
  unfolding first_mapped
  all_mapped n [] l = refl
  all_mapped zero (x ∷ xs) l = absurd (omega arith)
  all_mapped (suc n) (x ∷ xs) l = ap (λ ys. f x ∷ ys) (all_mapped n xs (omega arith))

  pub none_became : (xs : List BrickState) → SomeBecame f xs xs
  none_became [] = tt
  none_became (x ∷ xs) = (inl refl, none_became xs)

  pub some_mapped : (n : ℕ) (xs : List BrickState) → SomeBecame f xs (first_mapped n xs)
  unfolding first_mapped
  some_mapped n [] = tt
  some_mapped zero (x ∷ xs) = (inl refl, none_became xs)
  some_mapped (suc n) (x ∷ xs) = (inr refl, some_mapped n xs)

  module _ {B : Type 0} (state : B → BrickState) where
    pub one_mapped : (xs : List BrickState) (ys : List B) (i : ℕ) (old new : B) → i < length ys → old ≡ get_or ys i old → state new ≡ f (state old) → map state ys ≡ first_mapped i xs → map state (slice_set ys i new) ≡ first_mapped (suc i) xs
    unfolding first_mapped
    one_mapped xs [] i old new l was h e = absurd (omega arith)
    one_mapped [] (y ∷ ys) i old new l was h e = absurd (let z : suc (length (map state ys)) ≡ zero = ap length e in omega arith)
    one_mapped (x ∷ xs) (y ∷ ys) zero old new l was h e =
        let first : state y ≡ x = cc in
        let rest : map state ys ≡ xs = cc in
        (λ j. (h ∙ ap f (ap state was ∙ first)) j ∷ (rest ∙ none_mapped xs) j)
    one_mapped (x ∷ xs) (y ∷ ys) (suc i) old new l was h e =
        let first : state y ≡ f x = cc in
        let rest : map state ys ≡ first_mapped i xs = cc in
        (λ j. first j ∷ one_mapped xs ys i old new (omega arith) was h rest j)

    -- the next brick is as it was
    next_state : (xs : List BrickState) (ys : List B) (i : ℕ) (old : B) → i < length ys → old ≡ get_or ys i old → map state ys ≡ first_mapped i xs → slice_get xs i ≡ Some (state old)
    unfolding first_mapped
    next_state xs [] i old l was e = absurd (omega arith)
    next_state [] (y ∷ ys) i old l was e = absurd (let z : suc (length (map state ys)) ≡ zero = ap length e in omega arith)
    next_state (x ∷ xs) (y ∷ ys) zero old l was e = let first : state y ≡ x = cc in ap (λ (s : BrickState). Some s) (sym (ap state was ∙ first))
    next_state (x ∷ xs) (y ∷ ys) (suc i) old l was e = let rest : map state ys ≡ first_mapped i xs = cc in next_state xs ys i old (omega arith) was rest

    ready_state : (v : VolumeInfo) (u : Bool) (b : ℕ) (xs : List B) (i : ℕ) (s : BrickState) → slice_get (map state xs) i ≡ Some s → ReadyAt state v u b (slice_get xs i) → IsReady v u b s
    ready_state v u b [] i s e h = absurd (let z : None ≡ Some s = e in cc)
    ready_state v u b (x ∷ xs) zero s e h = subst (IsReady v u b) (let z : Some (state x) ≡ Some s = e in let q : state x ≡ s = cc in q) h
    ready_state v u b (x ∷ xs) (suc i) s e h = ready_state v u b xs i s e h

    pub next_ready : (ws : List ℕ) (run : ℕ) (down : ℕ → Bool) (xs ys : List B) (i : ℕ) (old : B) → i < length ys → old ≡ get_or ys i old → map state ys ≡ first_mapped i (map state xs) → AreReady state ws run down xs → IsReady (volume_of (length xs) ws run) (not (down i)) i (state old)
    next_ready ws run down xs ys i old l was e h = ready_state (volume_of (length xs) ws run) (not (down i)) i xs i (state old) (next_state (map state xs) ys i old l was e) (h i)

    -- what stands at one place of two lists, where it happened to all
    pub IsMapped : Option B → Option B → Type 0
    IsMapped None None = Unit {0}
    IsMapped (Some x) (Some y) = state y ≡ f (state x)
    IsMapped x y = ⊥

    pub mapped_at : (xs ys : List B) → map state ys ≡ map f (map state xs) → (i : ℕ) → IsMapped (slice_get xs i) (slice_get ys i)
    unfolding IsMapped
    mapped_at [] [] e i = tt
    mapped_at [] (y ∷ ys) e i = absurd (let z : suc (length (map state ys)) ≡ zero = ap length e in omega arith)
    mapped_at (x ∷ xs) [] e i = absurd (let z : zero ≡ suc (length (map f (map state xs))) = ap length e in omega arith)
    mapped_at (x ∷ xs) (y ∷ ys) e zero = let q : state y ≡ f (state x) = cc in q
    mapped_at (x ∷ xs) (y ∷ ys) e (suc i) = mapped_at xs ys (let q : map state ys ≡ map f (map state xs) = cc in q) i

    pub mapped_length : (xs ys : List B) → map state ys ≡ map f (map state xs) → length ys ≡ length xs
    mapped_length [] [] e = refl
    mapped_length [] (y ∷ ys) e = absurd (let z : suc (length (map state ys)) ≡ zero = ap length e in omega arith)
    mapped_length (x ∷ xs) [] e = absurd (let z : zero ≡ suc (length (map f (map state xs))) = ap length e in omega arith)
    mapped_length (x ∷ xs) (y ∷ ys) e = ap suc (mapped_length xs ys (let q : map state ys ≡ map f (map state xs) = cc in q))

    pub contents_mapped : (becomes : Contents → Contents) → ((s : BrickState) → (f s).contents ≡ becomes s.contents) → (x y : Option B) → IsMapped x y → (x ≢ None) → contents_at state y ≡ becomes (contents_at state x)
    unfolding IsMapped
    contents_mapped becomes k None None h ne = absurd (ne refl)
    contents_mapped becomes k None (Some y) h ne = absurd h
    contents_mapped becomes k (Some x) None h ne = absurd h
    contents_mapped becomes k (Some x) (Some y) h ne = ap (λ (s : BrickState). s.contents) h ∙ k (state x)

    nothing_mapped : (x y : Option B) → IsMapped x y → x ≡ None → contents_at state y ≡ contents_at state x
    unfolding IsMapped
    nothing_mapped None None h e = refl
    nothing_mapped None (Some y) h e = absurd h
    nothing_mapped (Some x) y h e = absurd (let z : Some x ≡ None = e in cc)

    journal_mapped : ((s : BrickState) → (f s).journal ≡ s.journal) → (x y : Option B) → IsMapped x y → journal_at state y ≡ journal_at state x
    unfolding IsMapped
    journal_mapped k None None h = refl
    journal_mapped k None (Some y) h = absurd h
    journal_mapped k (Some x) None h = absurd h
    journal_mapped k (Some x) (Some y) h = ap (λ (s : BrickState). s.journal) h ∙ k (state x)

    pub journals_mapped : ((s : BrickState) → (f s).journal ≡ s.journal) → (xs ys : List B) → map state ys ≡ map f (map state xs) → journals_of state ys ≡ journals_of state xs
    journals_mapped k xs ys e = λ i. λ b. journal_mapped k (slice_get xs b) (slice_get ys b) (mapped_at xs ys e b) i

    pub ready_mapped : (v w : VolumeInfo) (u : Bool) (b : ℕ) → ((s : BrickState) → IsReady v u b s → IsReady w u b (f s)) → (x y : Option B) → IsMapped x y → ReadyAt state v u b x → ReadyAt state w u b y
    unfolding IsMapped
    ready_mapped v w u b k None None h r = tt
    ready_mapped v w u b k None (Some y) h r = absurd h
    ready_mapped v w u b k (Some x) None h r = absurd h
    ready_mapped v w u b k (Some x) (Some y) h r = subst (IsReady w u b) (sym h) (k (state x) r)

-- ---- a client's locks were taken away everywhere

pub frees :
    {B : Type 0} (state : B → BrickState) (c : ℕ) (xs ys : List B)
    → map state ys ≡ map (without_client c) (map state xs)
    → FreesClient c (disk_of state xs) (disk_of state ys)
frees state c xs ys e = record {
  count = mapped_length (without_client c) state xs ys e;
  there = λ b l. contents_mapped (without_client c) state (freed c) (λ s. refl) (slice_get xs b) (slice_get ys b) (mapped_at (without_client c) state xs ys e b) (there_is xs b l);
  elsewhere = λ b l. nothing_mapped (without_client c) state (slice_get xs b) (slice_get ys b) (mapped_at (without_client c) state xs ys e b) (none_at xs b l);
}

pub freed_journals :
    {B : Type 0} (state : B → BrickState) (c : ℕ) (xs ys : List B)
    → map state ys ≡ map (without_client c) (map state xs)
    → journals_of state ys ≡ journals_of state xs
freed_journals state c xs ys e = journals_mapped (without_client c) state (λ s. refl) xs ys e

pub freed_ready :
    {B : Type 0} (state : B → BrickState) (ws : List ℕ) (run : ℕ) (down : ℕ → Bool) (c : ℕ)
    (xs ys : List B)
    → map state ys ≡ map (without_client c) (map state xs) → AreReady state ws run down xs
    → AreReady state ws run down ys
freed_ready state ws run down c xs ys e h b =
    let volume = volume_of (length xs) ws run in
    subst (λ (n : ℕ). ReadyAt state (volume_of n ws run) (not (down b)) b (slice_get ys b)) (sym (mapped_length (without_client c) state xs ys e))
    (ready_mapped (without_client c) state volume volume (not (down b)) b (λ s r. ready_freed volume (not (down b)) b c s r) (slice_get xs b) (slice_get ys b) (mapped_at (without_client c) state xs ys e b) (h b))

-- one brick was set to another with the same contents, or the same journal
shows_disk :
    {B : Type 0} (state : B → BrickState) (bricks : List B) (b : ℕ) (old new : B)
    → b < length bricks → old ≡ get_or bricks b old → (state new).contents ≡ (state old).contents
    → disk_of state (slice_set bricks b new) ≡ disk_of state bricks
shows_disk state bricks b old new l was same =
    let here : slice_get bricks b ≡ Some old = brick_is bricks b old l was in
    λ i. record {
      count = length-set bricks b new i;
      brick = (λ j. (set_at (contents_at state) bricks b new l j ∙ put_elim (λ y. y ≡ contents_at state (slice_get bricks j)) nat_eq exact_nat (λ m. contents_at state (slice_get bricks m)) b (state new).contents j (λ e. same ∙ (sym (ap (contents_at state) here) ∙ ap (λ (m : ℕ). contents_at state (slice_get bricks m)) (sym e))) (λ ne. refl)) i);
    }

shows_journals :
    {B : Type 0} (state : B → BrickState) (bricks : List B) (b : ℕ) (old new : B)
    → b < length bricks → old ≡ get_or bricks b old → (state new).journal ≡ (state old).journal
    → journals_of state (slice_set bricks b new) ≡ journals_of state bricks
shows_journals state bricks b old new l was same =
    let here : slice_get bricks b ≡ Some old = brick_is bricks b old l was in
    λ i. λ j. (set_at (journal_at state) bricks b new l j ∙ put_elim (λ y. y ≡ journal_at state (slice_get bricks j)) nat_eq exact_nat (λ m. journal_at state (slice_get bricks m)) b (state new).journal j (λ e. same ∙ (sym (ap (journal_at state) here) ∙ ap (λ (m : ℕ). journal_at state (slice_get bricks m)) (sym e))) (λ ne. refl)) i

-- or in the same state
pub same_disk_at :
    {B : Type 0} (state : B → BrickState) (bricks : List B) (b : ℕ) (old new : B)
    → b < length bricks → old ≡ get_or bricks b old → state new ≡ state old
    → disk_of state (slice_set bricks b new) ≡ disk_of state bricks
same_disk_at state bricks b old new l was h = shows_disk state bricks b old new l was (ap (λ (s : BrickState). s.contents) h)

pub same_journals_at :
    {B : Type 0} (state : B → BrickState) (bricks : List B) (b : ℕ) (old new : B)
    → b < length bricks → old ≡ get_or bricks b old → state new ≡ state old
    → journals_of state (slice_set bricks b new) ≡ journals_of state bricks
same_journals_at state bricks b old new l was h = shows_journals state bricks b old new l was (ap (λ (s : BrickState). s.journal) h)

-- where there is no brick there is nothing
pub nothing_beyond :
    {B : Type 0} (state : B → BrickState) (bricks : List B) (b : ℕ) → length bricks ≤ b
    → (disk_of state bricks).brick b ≡ nothing
nothing_beyond state bricks b l = ap (contents_at state) (none_at bricks b l)

-- ---- a brick whose contents and journal are as they were

pub up_disk_at :
    {B : Type 0} (state : B → BrickState) (bricks : List B) (b : ℕ) (old new : B) (v : Bool)
    → b < length bricks → old ≡ get_or bricks b old → state new ≡ record (state old) { is_up = v }
    → disk_of state (slice_set bricks b new) ≡ disk_of state bricks
up_disk_at state bricks b old new v l was h = shows_disk state bricks b old new l was (ap (λ (s : BrickState). s.contents) h)

pub up_journals_at :
    {B : Type 0} (state : B → BrickState) (bricks : List B) (b : ℕ) (old new : B) (v : Bool)
    → b < length bricks → old ≡ get_or bricks b old → state new ≡ record (state old) { is_up = v }
    → journals_of state (slice_set bricks b new) ≡ journals_of state bricks
up_journals_at state bricks b old new v l was h = shows_journals state bricks b old new l was (ap (λ (s : BrickState). s.journal) h)

-- a directory of which a copy may be made is not the root, and its home is a brick
may_be_made :
    (s : Scene) (b : ℕ) (d : Gfid) (n : List ℕ) (g : Gfid) (depth : ℕ) (value : Option (List ℕ))
    → IsTree s.history.tree → b < s.disk.count → Changes s b (MakeDir d n g depth value)
    → MayBeMade s.disk.count g
may_be_made s b d n g depth value tree there m = (
  elim m.takes [
    | inl q ↦ subst (λ (i : ℕ). i < s.disk.count) q.1 there
    | inr q ↦ (subst (NameFits s.disk.count) q.1 m.stands.fits).0
  ],
  λ e. elim m.also.0 [
    | inl q ↦ q.4 (ByDir (ap s.history.tree.dirs e ∙ tree.rooted.0))
    | inr q ↦ (let z : Some of_root ≡ Some (record { depth = depth; place = Some (d, n) }) = sym (ap s.history.tree.descents e ∙ tree.rooted.1) ∙ q.1 in
        let y : None ≡ Some (d, n) = ap place_in_some z in cc)
  ],
)
  where
    place_in_some : Option Descent → Option Entry
    place_in_some None = None
    place_in_some (Some x) = x.place

-- what may be asked may be sent
pub may_be_sent :
    (s : Scene) (b : ℕ) (q : Request) → IsTree s.history.tree → b < s.disk.count → May s b q
    → MayBeSent s.disk.count q
may_be_sent s b (Lock key mode) tree there h = tt
may_be_sent s b (Unlock key) tree there h = tt
may_be_sent s b (OnNames (Look d n)) tree there h = tt
may_be_sent s b (OnNames (Dirinfo d)) tree there h = tt
may_be_sent s b (OnNames (SetLayout d value)) tree there h = h.1.2
may_be_sent s b (OnNames (MakeDir d n g depth value)) tree there h = (may_be_made s b d n g depth value tree there h.1, h.1.also.1.2)
may_be_sent s b (OnNames (DropDir d n g)) tree there h = tt
may_be_sent s b (OnNames (Create d n f)) tree there h = tt
may_be_sent s b (OnNames (MakeLinkto d n value)) tree there h = h.1.also.0
may_be_sent s b (OnNames (DropLinkto d n)) tree there h = tt
may_be_sent s b (OnNames (Unlink d n f)) tree there h = tt
may_be_sent s b (OnNames q) tree there h = absurd h.0
may_be_sent s b (OnFile (Drop f)) tree there h = tt
may_be_sent s b (OnFile q) tree there h = absurd h.0
may_be_sent s b (Seal f) tree there h = tt
may_be_sent s b q tree there h = absurd h

-- the states of the bricks, where one of them was set to another in the same state
pub same_states_at :
    {B X : Type 0} (state : B → X) (bricks : List B) (b : ℕ) (old new : B)
    → old ≡ get_or bricks b old → state new ≡ state old
    → map state (slice_set bricks b new) ≡ map state bricks
same_states_at state [] b old new was h = refl
same_states_at state (x ∷ xs) zero old new was h = ap (λ y. y ∷ map state xs) (h ∙ ap state was)
same_states_at state (x ∷ xs) (suc b) old new was h = ap (λ ys. state x ∷ ys) (same_states_at state xs b old new was h)
