-- A permitted request keeps the invariant of each lock.
use Rattle.std.proofs.Common.{◌≡◌, ◌≢◌, ◌<◌, ℕ, zero, suc, Bool, true, false, List, refl, sym, ap, ◌∙◌, subst, inl, inr, arith}
use Rattle.std.specs.Prelude.{Option, Some, None, nat_eq, not, ◌&&◌, if◌then◌else◌}
use Rattle.std.proofs.lemmas.Bool.{cases_eq}
use Rattle.dht_types.proofs.PutLaws.{put_elim, put_same, put_other, exact_nat}
use Rattle.dht_types.specs.Put.{put}
use Rattle.dht_types.specs.declared.identifiers.ClientNo.{ClientNo}
use Rattle.dht_types.specs.declared.locks.Key.{Key}
use Rattle.dht_types.specs.declared.locks.Mode.{Mode}
use Rattle.dht_types.specs.declared.locks.Mode.TheVariants.{Shared, Exclusive}
use Rattle.dht_brick.specs.Contents.{Contents, Locks}
use Rattle.dht_brick.specs.LockRows.{same_key, held, excludes, hold_excludes, keeps_out, lowest, first_of, awaited, unless_awaited}
use Rattle.dht_brick.specs.NameRows.{name_row}
use Rattle.dht_brick.specs.FileRows.{file_row}
use Rattle.dht_brick.specs.OpenRows.{seal_row}
use Rattle.dht_brick.specs.Outcome.{Do, within, left_by}
use Rattle.dht_brick.specs.Rows.{row, with_store, with_opens, with_locks}
use Rattle.dht_brick.proofs.LockLaws.{exact_key}
use Rattle.dht_brick.specs.declared.replies.Given.TheVariants as given
use Rattle.dht_brick.specs.declared.replies.Reply.{Reply}
use Rattle.dht_brick.specs.declared.requests.Request.{Request}
use Rattle.dht_brick.specs.declared.requests.Request.TheVariants.{Lock, Unlock, Seal, OnNames, OnFile}
use Rattle.dht_section.specs.declared.machine.Ask.{Ask}
use Rattle.dht_section.specs.Claims.{Claim, Listed}
use Rattle.dht_section.specs.Disk.{holders}
use Rattle.dht_section.specs.Locks.{LockInvariant}
use Rattle.dht_section.specs.Moves.{Guarantee, outcome_of}
use Rattle.dht_section.specs.Permits.{May, Permitted}
use Rattle.dht_section.specs.Scene.{Scene}
use Rattle.dht_invariant.proofs.Basics.{not_true, true_false}
use Rattle.dht_section.proofs.EarlyLaws.{nat_cases}
use Rattle.dht_invariant.proofs.Frames.{brick_by}
use Rattle.dht_invariant.proofs.ServedLaws.{within_keeps, served_is}

-- where no number below a limit is the lowest that passes, none passes
none_first : (o p : Option ℕ) → first_of o p ≡ None → (o ≡ None) × (p ≡ None)
none_first None p e = (refl, e)
none_first (Some n) p e = absurd (let z : Some n ≡ None = e in cc)

none_if : (v : Bool) (n : ℕ) → (if v then Some n else None) ≡ None → v ≡ false
none_if false n e = refl
none_if true n e = absurd (let z : Some n ≡ None = e in cc)

pub none_below : (test : ℕ → Bool) (n : ℕ) → lowest test n ≡ None → (m : ℕ) → m < n → test m ≡ false
unfolding lowest
none_below test zero e m l = absurd (omega (arith, l))
none_below test (suc n) e m l =
    let h = none_first (lowest test n) (if test n then Some n else None) e in
    elim (cases_eq m n) [
      | inl q ↦ ap test q ∙ none_if (test n) n h.1
      | inr ne ↦ none_below test n h.0 m (omega (arith, l, ne))
    ]

alone_excludes : (m : Mode) → excludes m Exclusive ≡ true
alone_excludes Shared = refl
alone_excludes Exclusive = refl

held_alone_excludes : (m : Mode) → excludes Exclusive m ≡ true
held_alone_excludes Shared = refl
held_alone_excludes Exclusive = refl

-- ---- one client's hold of one lock changes

module _ (b : ℕ) (key : Key) (holds : ℕ → Option Mode) (claims : ℕ → Claim) (client : ℕ) (v : Option Mode) (k : LockInvariant b key holds claims) (low : client < 65536) (listed : (m : Mode) → v ≡ Some m → Listed (claims client).locks b key) (apart : (x : ℕ) (m n : Mode) → x ≢ client → holds x ≡ Some m → v ≡ Some n → excludes m n ≡ false) where
  abbrev new : ℕ → Option Mode
  new = put nat_eq holds client v

  mine : (c : ℕ) (m : Mode) → c ≡ client → new c ≡ Some m → v ≡ Some m
  mine c m q h = sym (put_same nat_eq exact_nat holds client v) ∙ (sym (ap new q) ∙ h)

  other : (c : ℕ) (m : Mode) → c ≢ client → new c ≡ Some m → holds c ≡ Some m
  other c m ne h = sym (put_other nat_eq exact_nat holds client v c ne) ∙ h

  pub held_keeps : LockInvariant b key new claims
  held_keeps = record {
    alone = λ c e m hc he. elim (nat_cases c client) [
      | inl q ↦ elim (nat_cases e client) [
        | inl r ↦ r ∙ sym q
        | inr ne ↦ absurd (true_false _ (alone_excludes m) (apart e m Exclusive ne (other e m ne he) (mine c Exclusive q hc)))
      ]
      | inr nc ↦ elim (nat_cases e client) [
        | inl r ↦ absurd (true_false _ (held_alone_excludes m) (apart c Exclusive m nc (other c Exclusive nc hc) (mine e m r he)))
        | inr ne ↦ k.alone c e m (other c Exclusive nc hc) (other e m ne he)
      ]
    ];
    claimed = λ c m h. elim (nat_cases c client) [
      | inl q ↦ subst (λ (i : ℕ). Listed (claims i).locks b key) (sym q) (listed m (mine c m q h))
      | inr ne ↦ k.claimed c m (other c m ne h)
    ];
    low = λ c m h. elim (nat_cases c client) [
      | inl q ↦ subst (λ (i : ℕ). i < 65536) (sym q) low
      | inr ne ↦ k.low c m (other c m ne h)
    ];
  }

-- ---- a brick's locks

abbrev pub AllKept : ℕ → (ℕ → Claim) → Contents → Type 0
AllKept b claims c = (key : Key) → LockInvariant b key (c.locks key) claims

same_locks :
    (b : ℕ) (claims : ℕ → Claim) (c e : Contents) → e.locks ≡ c.locks → AllKept b claims c
    → AllKept b claims e
same_locks b claims c e h k key = subst (λ (l : Locks). LockInvariant b key (l key) claims) (sym h) (k key)

-- a hold of one key changes
key_keeps :
    (b : ℕ) (claims : ℕ → Claim) (c : Contents) (client : ℕ) (at : Key) (v : Option Mode)
    → AllKept b claims c → client < 65536
    → ((m : Mode) → v ≡ Some m → Listed (claims client).locks b at)
    → ((x : ℕ) (m n : Mode) → x ≢ client → c.locks at x ≡ Some m → v ≡ Some n → excludes m n ≡ false)
    → AllKept b claims (with_locks c (held c.locks at client v))
key_keeps b claims c client at v k low listed apart key =
    put_elim (λ (h : ℕ → Option Mode). LockInvariant b key h claims) same_key exact_key c.locks at (put nat_eq (c.locks at) client v) key
    (λ q. subst (λ (j : Key). LockInvariant b j (put nat_eq (c.locks at) client v) claims) (sym q) (held_keeps b at (c.locks at) claims client v (k at) low listed apart))
    (λ ne. k key)

-- a lock that is granted is kept from nobody who holds it
out_false : (v w : Bool) → v ≡ false → (not v && w) ≡ false → w ≡ false
out_false false w e h = h
out_false true w e h = absurd (let z : true ≡ false = e in cc)

granted_apart :
    (b : ℕ) (claims : ℕ → Claim) (c : Contents) (client : ClientNo) (at : Key) (mode : Mode)
    → AllKept b claims c → awaited c.locks client at mode ≡ None → (x : ℕ) (m n : Mode)
    → x ≢ client.0 → c.locks at x ≡ Some m → Some mode ≡ Some n → excludes m n ≡ false
granted_apart b claims c client at mode k none x m n ne h e =
    let out = none_below (keeps_out (c.locks at) client.0 mode) 65536 none x ((k at).low x m h) in
    let w = out_false (nat_eq x client.0) (hold_excludes (c.locks at x) mode) (not_true (nat_eq x client.0) (λ q. ne ((exact_nat x client.0).0 q))) out in
    let same : mode ≡ n = cc in
    ap (excludes m) (sym same) ∙ (ap (λ o. hold_excludes o mode) (sym h) ∙ w)

asked_keeps :
    (b : ℕ) (claims : ℕ → Claim) (c : Contents) (new : Locks) (o : Option ℕ) → AllKept b claims c
    → (o ≡ None → AllKept b claims (with_locks c new))
    → AllKept b claims (left_by (within (with_locks c) (unless_awaited o (Do given.Nothing new))) c)
asked_keeps b claims c new None k h = h refl
asked_keeps b claims c new (Some holder) k h = k

row_keeps :
    (bricks : List (List ℕ)) (s : Scene) (b : ℕ) (q : Request) (c : Contents) → May s b q
    → s.who.0 < 65536 → AllKept b s.claims c
    → AllKept b s.claims (left_by (row bricks s.who s.mine.number q c) c)
row_keeps bricks s b (Lock key mode) c may low k =
    asked_keeps b s.claims c (held c.locks key s.who.0 (Some mode)) (awaited c.locks s.who key mode) k
    (λ none. key_keeps b s.claims c s.who.0 key (Some mode) k low
    (λ m e. subst (λ ls. Listed ls b key) (sym may.1.first) (inl (refl, refl)))
    (granted_apart b s.claims c s.who key mode k none))
row_keeps bricks s b (Unlock key) c may low k = key_keeps b s.claims c s.who.0 key None k low (λ m e. absurd (let z : None ≡ Some m = e in cc)) (λ x m n ne h e. absurd (let z : None ≡ Some n = e in cc))
row_keeps bricks s b (OnNames q) c may low k = same_locks b s.claims c (left_by (row bricks s.who s.mine.number (OnNames q) c) c) (within_keeps (λ (x : Contents). x.locks) (with_store c) (name_row bricks q c.store) c (λ a. refl)) k
row_keeps bricks s b (OnFile q) c may low k = same_locks b s.claims c (left_by (row bricks s.who s.mine.number (OnFile q) c) c) (within_keeps (λ (x : Contents). x.locks) (with_store c) (file_row bricks q c.store) c (λ a. refl)) k
row_keeps bricks s b (Seal f) c may low k = same_locks b s.claims c (left_by (row bricks s.who s.mine.number (Seal f) c) c) (within_keeps (λ (x : Contents). x.locks) (with_opens c) (seal_row f c.opens) c (λ a. refl)) k
row_keeps bricks s b q c may low k = absurd may

pub locks_moved :
    (s t : Scene) (a : Ask) (r : Reply) → Guarantee s a r t → Permitted s a → s.who.0 < 65536
    → ((b : ℕ) (key : Key) → b < s.disk.count → LockInvariant b key (holders s.disk b key) s.claims)
    → (b : ℕ) (key : Key) → b < t.disk.count → LockInvariant b key (holders t.disk b key) t.claims
locks_moved s t a r m p low k b key l =
    subst (λ (x : ℕ → Claim). LockInvariant b key (holders t.disk b key) x) (sym m.claims)
    (brick_by (λ c. LockInvariant b key (c.locks key) s.claims) s.disk t.disk a.brick.0 m.new b m.disk
    (λ q. subst (λ (i : ℕ). LockInvariant i key (m.new.locks key) s.claims) (sym q) (new_kept key))
    (λ ne. k b key (subst (λ (n : ℕ). b < n) m.disk.count l)))
  where
    old_kept : AllKept a.brick.0 s.claims (s.disk.brick a.brick.0)
    old_kept key = k a.brick.0 key p.there

    new_kept : AllKept a.brick.0 s.claims m.new
    new_kept = served_is (AllKept a.brick.0 s.claims) (outcome_of s a) (s.disk.brick a.brick.0) m.real m.new (row_keeps _ s a.brick.0 a.request (s.disk.brick a.brick.0) p.may low old_kept) old_kept m.served
