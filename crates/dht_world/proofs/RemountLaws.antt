-- A remount: why it is refused, and where it leads to, also where memory runs out in it.
use Rattle.std.proofs.Common.{◌≡◌, ◌<◌, ◌≤◌, ◌+◌, ℕ, Bool, true, false, refl, sym, ◌∙◌, ap, subst, inl, arith, zero, suc, List, [], ◌∷◌, ◌++◌, length}
use Rattle.std.specs.Prelude.{Option, Some, None, is_some, MatchBool, map, nat_lt, not, ◌||◌, if◌then◌else◌, slice_get}
use Rattle.std.specs.List.{list_any}
use Rattle.std.proofs.lemmas.Bool.{ltb-false}
use Rattle.dht_types.specs.History.{History, is_empty, with_line, start, history_of}
use Rattle.dht_types.specs.Volume.{VolumeInfo, HasWeight, IsVolume, replay_info}
use Rattle.dht_types.proofs.HistoryLaws.{run_with_line, lines_more}
use Rattle.dht_types.specs.declared.lines.Cause.TheVariants.{Open, Fewer}
use Rattle.dht_types.specs.declared.lines.Line.{Line}
use Rattle.dht_types.specs.declared.lines.Line.TheVariants.{Remounted}
use Rattle.dht_brick.specs.declared.brick.Brick.{Ghosts as BrickGhosts}
use Rattle.dht_brick.specs.declared.journal.JournalEntry.{JournalEntry}
use Rattle.dht_section.specs.Claims.{Claim, no_claim}
use Rattle.dht_section.specs.Disk.{Disk}
use Rattle.dht_section.specs.Invariant.{Invariant}
use Rattle.dht_section.specs.declared.caller.Caller.{Ghosts as CallerGhosts}
use Rattle.dht_invariant.specs.Remount.{Remounts, RemountsInPart}
use Rattle.dht_invariant.proofs.RemountKeeps.{remounts_keep, remounts_in_part_keep}
use Rattle.dht_world.specs.Bricks.{disk_of, journals_of, volume_of, remounted_in, AreFresh, AreReady, AreReadyInEither, SomeBecame}
use Rattle.dht_types.specs.Counted.{CallsCounted, IsListed}
use Rattle.dht_world.specs.Clients.{Rests, Works, ClientFits, AreNewClients, claim_at, claims_of, is_busy_at}
use Rattle.dht_world.specs.Following.{remount_cause}
use Rattle.dht_world.specs.Places.{IsAt, IsRemounting, summary_of}
use Rattle.dht_world.specs.World.{Summary, Fit, At}
use Rattle.dht_world.specs.declared.events.World.{World}
use Rattle.dht_world.specs.declared.places.Place.{Place}
use Rattle.dht_world.specs.declared.places.Place.TheVariants.{Living, Dead}
use Rattle.dht_world.proofs.AtLaws.{down_after}
use Rattle.dht_invariant.proofs.CountedLaws.{none_if, not_empty, not_none}
use Rattle.dht_world.proofs.LineLaws.{in_time_append, legal_lines}
use Rattle.dht_world.proofs.NotedLaws.{noted_append}
use Rattle.dht_world.proofs.MountLaws.{mounts, mount_journals, mount_ready, part_mounts, part_journals, part_ready}
use Rattle.dht_world.proofs.StartLaws.{new_claim, new_fits}

-- ---- runs are numbered from 1

later_run : (s : History) (x : Line) → 0 < s.run → 0 < (with_line s x).run
later_run s (Remounted w) l = omega arith
later_run s x l = subst (λ (n : ℕ). 0 < n) (sym (run_with_line s x tt)) l

some_run :
    (s : History) (xs : List Line) → 0 < s.run
    → 0 < (Rattle.dht_types.specs.History.with_lines s xs).run
some_run s [] l = l
some_run s (x ∷ xs) l = some_run (with_line s x) xs (later_run s x l)

-- ---- no call is pending

none_listed : (xs : List ℕ) → ((c : ℕ) → IsListed c xs → ⊥) → is_empty xs ≡ true
none_listed [] h = refl
none_listed (x ∷ xs) h = absurd (h x (inl refl))

none_pending :
    (s : History) → CallsCounted s → is_empty s.callers ≡ true → (c : ℕ) → s.pending c ≡ None
none_pending s h e c = none_if (s.pending c) (λ r q. not_empty c s.callers (h.listed c r q) e)

some_not_empty : (xs : List ℕ) (c : ℕ) → IsListed c xs → is_empty xs ≡ false
some_not_empty [] c l = absurd l
some_not_empty (x ∷ xs) c l = refl

-- such a remount is not refused
not_called :
    (s : History) (ws : List ℕ) → remount_cause s ws ≡ None
    → (is_empty s.callers ≡ true) × (length s.weights ≤ length ws)
not_called s ws = by (is_empty s.callers) (nat_lt (length ws) (length s.weights)) (ltb-false (length ws) (length s.weights))
  where
    by : (b fewer : Bool) → (fewer ≡ false → length s.weights ≤ length ws) → (if not b then Some Open else if fewer then Some Fewer else None) ≡ None → (b ≡ true) × (length s.weights ≤ length ws)
    by true true k e = absurd (let z : Some Fewer ≡ None = e in cc)
    by true false k e = (refl, k refl)
    by false fewer k e = absurd (let z : Some Open ≡ None = e in cc)

-- ---- a test of the things of a list

-- some thing passes it
abbrev Found : {A : Type 0} → (A → Bool) → List A → Type 0
Found {A} p xs = (i : ℕ) × (x : A) × (slice_get xs i ≡ Some x) × (p x ≡ true)

found_by :
    {A : Type 0} (p : A → Bool) (x : A) (xs : List A) (b : Bool) → p x ≡ b
    → (b || list_any p xs) ≡ true → (list_any p xs ≡ true → Found p xs) → Found p (x ∷ xs)
found_by p x xs true ev e more = (0, x, refl, ev)
found_by p x xs false ev e more = (let m = more e in (suc m.0, m.1, m.2, m.3))

some_place : {A : Type 0} (p : A → Bool) (xs : List A) → list_any p xs ≡ true → Found p xs
some_place p [] e = absurd (let z : false ≡ true = e in cc)
some_place p (x ∷ xs) e = found_by p x xs (p x) refl e (some_place p xs)

neither : (a b : Bool) → (a || b) ≡ false → (a ≡ false) × (b ≡ false)
neither true b e = absurd (let z : true ≡ false = e in cc)
neither false b e = (refl, e)

-- or none does
no_place :
    {A : Type 0} (p : A → Bool) (xs : List A) → list_any p xs ≡ false → (i : ℕ) (x : A)
    → slice_get xs i ≡ Some x → p x ≡ false
no_place p [] e i x h = absurd (let z : None ≡ Some x = h in cc)
no_place p (y ∷ ys) e zero x h = ap p (let z : Some x ≡ Some y = sym h in let q : x ≡ y = cc in q) ∙ (neither (p y) (list_any p ys) e).0
no_place p (y ∷ ys) e (suc i) x h = no_place p ys (neither (p y) (list_any p ys) e).1 i x h

some_is : {A : Type 0} (o : Option A) → is_some o ≡ true → (x : A) × (o ≡ Some x)
some_is None e = absurd (let z : false ≡ true = e in cc)
some_is (Some x) e = (x, refl)

module _ {C : Type 0} (g : CallerGhosts C) where
  -- ---- a pending call, by the places

  busy_pends : (d : Disk) (s : History) (p : ℕ → Claim) (c : ℕ) (q : Place C) → ClientFits g d s p c (Some q) → is_busy_at g q ≡ true → is_some (s.pending c) ≡ true
  busy_pends d s p c Dead h e = absurd (let z : false ≡ true = e in cc)
  busy_pends d s p c (Living x n) h e = by (g.is_busy x) e h.2
    where
      by : (b : Bool) → b ≡ true → MatchBool b (Works g d s p c x n) (Rests g s c x) → is_some (s.pending c) ≡ true
      by true e w = ap is_some w.runs
      by false e w = absurd (let z : false ≡ true = e in cc)

  idle_none : (d : Disk) (s : History) (p : ℕ → Claim) (c : ℕ) (q : Place C) → ClientFits g d s p c (Some q) → is_busy_at g q ≡ false → s.pending c ≡ None
  idle_none d s p c Dead h e = h.1
  idle_none d s p c (Living x n) h e = by (g.is_busy x) e h.2
    where
      by : (b : Bool) → b ≡ false → MatchBool b (Works g d s p c x n) (Rests g s c x) → s.pending c ≡ None
      by true e w = absurd (let z : true ≡ false = e in cc)
      by false e w = w.none

  -- some client has a pending call, or none has
  called_is : (d : Disk) (js : ℕ → List JournalEntry) (places : List (Place C)) (ws : List ℕ) (n : Summary) (s : History) → Fit g d js places ws n s → list_any (is_busy_at g) places ≡ not (is_empty s.callers)
  called_is d js places ws n s h = by (list_any (is_busy_at g) places) refl
    where
      fits : (c : ℕ) (o : Option (Place C)) → slice_get places c ≡ o → ClientFits g d s (claims_of g places) c o
      fits c o e = subst (ClientFits g d s (claims_of g places) c) e (h.each c)

      none : list_any (is_busy_at g) places ≡ false → (c : ℕ) (o : Option (Place C)) → slice_get places c ≡ o → s.pending c ≡ None
      none e c None q = fits c None q
      none e c (Some x) q = idle_none d s (claims_of g places) c x (fits c (Some x) q) (no_place (is_busy_at g) places e c x q)

      by : (b : Bool) → list_any (is_busy_at g) places ≡ b → b ≡ not (is_empty s.callers)
      by true e =
          let busy = some_place (is_busy_at g) places e in
          let pends = some_is (s.pending busy.0) (busy_pends d s (claims_of g places) busy.0 busy.1 (fits busy.0 (Some busy.1) busy.2) busy.3) in
          sym (ap not (some_not_empty s.callers busy.0 (h.kept.counts.listed busy.0 pends.0 pends.1)))
      by false e = sym (ap not (none_listed s.callers (λ c l. let z : false ≡ true = sym (ap is_some (none e c (slice_get places c) refl)) ∙ h.kept.counts.calling c l in cc)))

  pub cause_is : (d : Disk) (js : ℕ → List JournalEntry) (places : List (Place C)) (ws w : List ℕ) (n : Summary) (s : History) (called fewer : Bool) → Fit g d js places ws n s → called ≡ list_any (is_busy_at g) places → fewer ≡ nat_lt (length w) (length ws) → (if called then Some Open else if fewer then Some Fewer else None) ≡ remount_cause s w
  cause_is d js places ws w n s called fewer h ec ef =
      ap (λ (b : Bool). if b then Some Open else if fewer then Some Fewer else None) (ec ∙ called_is d js places ws n s h)
      ∙ ap (λ (b : Bool). if not (is_empty s.callers) then Some Open else if b then Some Fewer else None)
      (ef ∙ ap (λ (xs : List ℕ). nat_lt (length w) (length xs)) (sym h.same_weights))

  -- ---- the world after a remount

  -- a client that has no pending call claims nothing, whatever the bricks contain
  idle_claim : (d : Disk) (s : History) (p : ℕ → Claim) (c : ℕ) (o : Option (Place C)) → s.pending c ≡ None → ClientFits g d s p c o → claim_at g o ≡ no_claim
  idle_claim d s p c None none h = refl
  idle_claim d s p c (Some Dead) none h = refl
  idle_claim d s p c (Some (Living x n)) none h = by (g.is_busy x) h.2
    where
      by : (b : Bool) → MatchBool b (Works g d s p c x n) (Rests g s c x) → (if b then (g.stage x).claims else no_claim) ≡ no_claim
      by true w = absurd (not_none (s.pending c) w.mine none w.runs)
      by false w = refl

  idle_fits : (d e : Disk) (s : History) (p : ℕ → Claim) (c : ℕ) (o : Option (Place C)) → s.pending c ≡ None → ClientFits g d s p c o → ClientFits g e s p c o
  idle_fits d e s p c None none h = h
  idle_fits d e s p c (Some Dead) none h = h
  idle_fits d e s p c (Some (Living x n)) none h = (h.0, h.1, by (g.is_busy x) h.2)
    where
      by : (b : Bool) → MatchBool b (Works g d s p c x n) (Rests g s c x) → MatchBool b (Works g e s p c x n) (Rests g s c x)
      by true w = absurd (not_none (s.pending c) w.mine none w.runs)
      by false w = w

  module _ (d e : Disk) (js : ℕ → List JournalEntry) (places : List (Place C)) (ws w : List ℕ) (n : Summary) (past : List Line) (h : At g d js places ws n past) (accepted : remount_cause (history_of past) w ≡ None) where
    abbrev s : History
    s = history_of past

    abbrev t : History
    t = with_line s (Remounted w)

    free : (is_empty s.callers ≡ true) × (length s.weights ≤ length w)
    free = not_called s w accepted

    none : (c : ℕ) → s.pending c ≡ None
    none = none_pending s h.fit.kept.counts free.0

    -- all bricks were mounted anew, others came, and all clients are new
    pub at_remounted : (after : List (Place C)) → HasWeight w → length w ≤ 32 → Remounts w d e → length after ≡ 64 → AreNewClients g after → At g e js after w (record n { run = n.run + 1; lines = n.lines + 1 }) (past ++ Remounted w ∷ [])
    at_remounted after heavy few mounts many new =
        let fit = h.fit in
        let summary = fit.summary in
        let size = summary.lines in
        let fewer = summary.fewer in
        let less = summary.less in
        let run = summary.run in
        let bricks : length s.weights ≡ length ws = ap (λ (xs : List ℕ). length xs) fit.same_weights in
        let both = remounts_keep w d e s (claims_of g places) fit.kept fit.early heavy few (some_run start past (omega arith)) mounts in
        let claims : claims_of g places ≡ claims_of g after = (λ i. λ c. (idle_claim d s (claims_of g places) c (slice_get places c) (none c) (fit.each c) ∙ sym (new_claim g c (slice_get after c) (new c))) i) in
        record {
          legal = legal_lines past (Remounted w ∷ []) h.legal ((h.legal.whole, none, free.1), tt) refl;
          in_time = in_time_append start past (Remounted w ∷ []) h.in_time (tt, tt);
          noted = noted_append js start past (Remounted w ∷ []) h.noted (tt, tt);
          fit = subst (λ (u : History). Fit g e js after w (record n { run = n.run + 1; lines = n.lines + 1 }) u) (sym (lines_more start past (Remounted w))) (record {
            kept = subst (λ (p : ℕ → Claim). Invariant e t p) claims both.0;
            early = both.1;
            logged = record { steps = fit.logged.steps; slots = fit.logged.slots; dirs = fit.logged.dirs };
            same_weights = refl;
            up_above = λ b l. fit.up_above b (let more = free.1 in omega arith);
            summary = record { run = omega arith; calls = summary.calls; lines = omega arith; requests = summary.requests; answers = summary.answers; places = summary.places; fewer = omega arith; less = omega arith };
            many = many;
            each = λ c. new_fits g e t (claims_of g after) c (slice_get after c) refl (none c) (new c);
          });
        }

    -- some bricks were mounted anew, and nothing else happened
    pub at_part : RemountsInPart d e → At g e js places ws n past
    at_part part =
        let fit = h.fit in
        let both = remounts_in_part_keep d e s (claims_of g places) fit.kept fit.early part in
        record {
          legal = h.legal;
          in_time = h.in_time;
          noted = h.noted;
          fit = record {
            kept = both.0;
            early = both.1;
            logged = fit.logged;
            same_weights = fit.same_weights;
            up_above = fit.up_above;
            summary = fit.summary;
            many = fit.many;
            each = λ c. idle_fits d e s (claims_of g places) c (slice_get places c) (none c) (fit.each c);
          };
        }

-- ---- of a world

module _ {B C : Type 0} (b : BrickGhosts B) (g : CallerGhosts C) (w : World B C) (past : List Line) (ws : List ℕ) (at : IsAt b g w past) (accepted : remount_cause (history_of past) ws ≡ None) where
  abbrev v : VolumeInfo
  v = replay_info ws (w.run + 1)

  pub more : length w.bricks.items ≤ length ws
  more =
      let count = at.led.fit.kept.counted in
      let grown = (not_called (history_of past) ws accepted).1 in
      omega arith

  module _ (ys fresh : List B) (mounted : map b.state ys ≡ map (remounted_in v) (map b.state w.bricks.items)) (new : AreFresh b.state (length w.bricks.items) ws (w.run + 1) fresh) where
    pub remounted_at : (after : List (Place C)) → IsVolume v → length after ≡ 64 → AreNewClients g after → At g (disk_of b.state (ys ++ fresh)) (journals_of b.state (ys ++ fresh)) after ws (record (summary_of w) { run = w.run + 1; lines = w.lines + 1 }) (past ++ Remounted ws ∷ [])
    remounted_at after volume many clients =
        let few = volume.few in
        let weighed = volume.weighed in
        subst (λ (js : ℕ → List JournalEntry). At g (disk_of b.state (ys ++ fresh)) js after ws (record (summary_of w) { run = w.run + 1; lines = w.lines + 1 }) (past ++ Remounted ws ∷ [])) (sym (mount_journals b.state ws (w.run + 1) w.bricks.items ys fresh mounted new more))
        (at_remounted g (disk_of b.state w.bricks.items) (disk_of b.state (ys ++ fresh)) (journals_of b.state w.bricks.items) w.clients.items w.weights ws (summary_of w) past at.led accepted after volume.heavy (omega arith)
        (mounts b.state ws (w.run + 1) w.bricks.items ys fresh mounted new more) many clients)

    pub remounted_ready : AreReady b.state ws (w.run + 1) (history_of (past ++ Remounted ws ∷ [])).down (ys ++ fresh)
    remounted_ready =
        let same = at.led.fit.same_weights in
        let bricks : length (history_of past).weights ≡ length w.weights = ap (λ (xs : List ℕ). length xs) same in
        let count = at.led.fit.kept.counted in
        subst (λ (down : ℕ → Bool). AreReady b.state ws (w.run + 1) down (ys ++ fresh)) (sym (down_after past (Remounted ws) (history_of past).down refl))
        (mount_ready b.state ws (w.run + 1) w.bricks.items ys fresh mounted new more w.weights w.run (history_of past).down at.ready (λ i l. at.led.fit.up_above i (omega arith)))

  -- memory ran out
  pub remounting : (n : World B C) → SomeBecame (remounted_in v) (map b.state w.bricks.items) (map b.state n.bricks.items) → n.clients ≡ w.clients → n.weights ≡ w.weights → summary_of n ≡ summary_of w → IsRemounting b g n ws past
  remounting n some clients weights summary =
      let ys = n.bricks.items in
      let run : n.run ≡ w.run = ap (λ (x : Summary). x.run) summary in
      record {
        led = subst (λ (x : Summary). At g (disk_of b.state ys) (journals_of b.state ys) n.clients.items n.weights x past) (sym summary)
            (subst (λ (xs : List ℕ). At g (disk_of b.state ys) (journals_of b.state ys) n.clients.items xs (summary_of w) past) (sym weights)
            (subst (λ cs. At g (disk_of b.state ys) (journals_of b.state ys) cs w.weights (summary_of w) past) (sym (ap (λ (k : Rattle.std.specs.Global.Vec (Place C)). k.items) clients))
            (subst (λ (js : ℕ → List JournalEntry). At g (disk_of b.state ys) js w.clients.items w.weights (summary_of w) past) (sym (part_journals b.state v w.bricks.items ys some))
            (at_part g (disk_of b.state w.bricks.items) (disk_of b.state ys) (journals_of b.state w.bricks.items) w.clients.items w.weights ws (summary_of w) past at.led accepted (part_mounts b.state v w.bricks.items ys some)))));
        ready = subst (λ (xs : List ℕ). AreReadyInEither b.state (volume_of (length ys) xs n.run) (replay_info ws (n.run + 1)) (history_of past).down ys) (sym weights)
            (subst (λ (r : ℕ). AreReadyInEither b.state (volume_of (length ys) w.weights r) (replay_info ws (r + 1)) (history_of past).down ys) (sym run)
            (part_ready b.state v w.bricks.items ys some w.weights w.run (history_of past).down at.ready));
      }
