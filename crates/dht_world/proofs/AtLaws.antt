-- How what holds of the world is kept by an event: what each
-- lemma here asks of the event, and the events that are no step.
use Rattle.std.proofs.Common.{◌≡◌, ◌<◌, ◌≤◌, ◌+◌, ℕ, Bool, true, false, List, [], ◌∷◌, ◌++◌, refl, sym, ap, ◌∙◌, subst, inl, length, arith}
use Rattle.std.specs.Prelude.{Option, Some, None, is_some, nat_eq, if◌then◌else◌, slice_get, slice_set}
use Rattle.std.proofs.Math.ListN.{length-set}
use Rattle.dht_types.proofs.PutLaws.{put_same, put_other, exact_nat}
use Rattle.dht_types.specs.History.{History, PendingCall, Follows, LegalFrom, tells, with_line, with_lines, start, history_of}
use Rattle.dht_types.proofs.HistoryLaws.{lines_append, lines_more}
use Rattle.dht_types.specs.Gfid.{Entry}
use Rattle.dht_types.specs.declared.identifiers.BrickNo.{BrickNo}
use Rattle.dht_types.specs.declared.identifiers.CallNo.{CallNo}
use Rattle.dht_types.specs.declared.lines.Cause.{Cause}
use Rattle.dht_types.specs.declared.lines.Line.{Line}
use Rattle.dht_types.specs.declared.lines.Line.TheVariants.{WentDown, CameUp, Died, Refused}
use Rattle.dht_brick.specs.declared.journal.JournalEntry.{JournalEntry}
use Rattle.dht_section.specs.Claims.{Claim, Listed, MayClaim, no_claim, place_in}
use Rattle.dht_section.specs.Disk.{Disk, holders}
use Rattle.dht_section.specs.Rely.{Rely}
use Rattle.dht_section.specs.Shapes.{NameShape, Folder, Committed, Grows}
use Rattle.dht_section.specs.Stages.{IsCallStable}
use Rattle.dht_section.specs.declared.caller.Caller.{Ghosts as CallerGhosts}
use Rattle.dht_invariant.specs.Laws.{TransitionLaws}
use Rattle.dht_invariant.specs.Transition.{scene, Transition, FreesClient}
use Rattle.dht_types.specs.Counted.{IsListed, CallsCounted}
use Rattle.dht_world.specs.Bricks.{AreNoted, IsNoted, IsSublist, copied_slots}
use Rattle.dht_world.specs.Clients.{client, claim_at, claims_of, ClientFits}
use Rattle.dht_world.specs.Following.{InTime, InTimeFrom}
use Rattle.dht_world.specs.World.{Summary, Fit, At}
use Rattle.dht_world.specs.declared.places.Place.{Place}
use Rattle.dht_world.specs.declared.places.Place.TheVariants.{Living, Dead}
use Rattle.dht_world.proofs.BrickLaws.{get_set_same, get_set_other, none_at}
use Rattle.dht_world.proofs.ClientLaws.{Happens, fit_after, claims_set}
use Rattle.dht_invariant.proofs.CountedLaws.{not_none}
use Rattle.dht_world.proofs.LineLaws.{in_time_append, legal_lines}
use Rattle.dht_world.proofs.NotedLaws.{Extends, noted_on, noted_append}

pub grows_refl : (h : NameShape) → Grows h h
grows_refl (Folder g on) = (on, refl, λ b e. e)
grows_refl (Committed t f) = (false, refl)
grows_refl h = refl

-- to claim something else is what others may do, also to myself
pub rely_claimed :
    (d : Disk) (s : History) (p q : ℕ → Claim) (c : ℕ) (r : PendingCall)
    → Rely (scene d s p (client c) r) (scene d s q (client c) r)
rely_claimed d s p q c r = record {
  who = refl;
  mine = record { number = refl; call = refl; since = refl; alone = refl; is_first = refl; was_down = refl; has_failed = refl; deeds = refl };
  count = refl;
  run = refl;
  weights = refl;
  locks = λ b key. refl;
  names = λ e h g st. (h, grows_refl h, st);
  slots = λ e b g h. refl;
  outlines = λ e b f g l h. refl;
  dirs = λ g b x h e. (x, e, record { place = refl; depth = refl; hashes = refl });
  added = λ g b x h n e. absurd (not_none _ x n e);
  known = λ g h e. e;
  both = λ e g on n a st. st;
  planned = λ g h. h;
  made = λ g x h. h;
  still = λ u. record { before = u; tree = refl; stores = λ b. refl };
  used = λ f h. h;
  sealed = λ f h. h;
  nameless = λ f h. h;
  later = omega arith;
  past = λ j l. refl;
}

-- the line tells of nothing that the world keeps but bricks that are down
pub record IsStill (s : History) (x : Line) : Type 0 where
  pub tree : (tells s x).tree ≡ s.tree
  pub weights : (tells s x).weights ≡ s.weights
  pub run : (tells s x).run ≡ s.run
  pub calls : (tells s x).calls ≡ s.calls
  pub pending : (tells s x).pending ≡ s.pending
  pub callers : (tells s x).callers ≡ s.callers
  pub called : (tells s x).called ≡ s.called
  pub dead : (tells s x).dead ≡ s.dead
  pub down : (b : ℕ) → length s.weights ≤ b → (tells s x).down b ≡ s.down b
  pub clean : (tells s x).clean ≡ true → s.clean ≡ true
  pub requests : (tells s x).requests ≡ s.requests
  pub acts : (tells s x).acts ≡ s.acts
  pub changes : (tells s x).changes ≡ s.changes
  pub dir_changes : (tells s x).dir_changes ≡ s.dir_changes
  pub answered : (tells s x).answered ≡ s.answered

pub still_refused : (s : History) (n : ℕ) (cause : Cause) → IsStill s (Refused n cause)
still_refused s n cause = record { tree = refl; weights = refl; run = refl; calls = refl; pending = refl; callers = refl; called = refl; dead = refl; down = λ b l. refl; clean = λ q. q; requests = refl; acts = refl; changes = refl; dir_changes = refl; answered = refl }

pub still_down : (s : History) (b : BrickNo) → b.0 < length s.weights → IsStill s (WentDown b)
still_down s b there = record { tree = refl; weights = refl; run = refl; calls = refl; pending = refl; callers = refl; called = refl; dead = refl; down = λ i l. put_other nat_eq exact_nat s.down b.0 true i (λ e. omega arith); clean = λ q. absurd (let z : false ≡ true = q in cc); requests = refl; acts = refl; changes = refl; dir_changes = refl; answered = refl }

pub still_up : (s : History) (b : BrickNo) → b.0 < length s.weights → IsStill s (CameUp b)
still_up s b there = record { tree = refl; weights = refl; run = refl; calls = refl; pending = refl; callers = refl; called = refl; dead = refl; down = λ i l. put_other nat_eq exact_nat s.down b.0 false i (λ e. omega arith); clean = λ q. q; requests = refl; acts = refl; changes = refl; dir_changes = refl; answered = refl }

-- which bricks are down after a line more
pub down_after :
    (past : List Line) (x : Line) (down : ℕ → Bool) → (tells (history_of past) x).down ≡ down
    → (history_of (past ++ x ∷ [])).down ≡ down
down_after past x down e = ap (λ (s : History). s.down) (lines_more start past x) ∙ e

module _ {C : Type 0} (g : CallerGhosts C) (laws : TransitionLaws) (stable : (x : C) → IsCallStable (g.stage x)) where
  -- lines that may come, after which the world fits
  pub at_by : (c : ℕ) (d e : Disk) (js ks : ℕ → List JournalEntry) (places after : List (Place C)) (ws : List ℕ) (m n : Summary) (past lines : List Line) → At g d js places ws m past → LegalFrom (history_of past) lines → (with_lines (history_of past) lines).owed ≡ None → InTimeFrom (history_of past) lines → Extends js ks → AreNoted ks (history_of past) lines → Happens g c d e ks (history_of past) (with_lines (history_of past) lines) places after n → At g e ks after ws n (past ++ lines)
  at_by c d e js ks places after ws m n past lines h legal owed in_time grown noted happens = record {
    legal = legal_lines past lines h.legal legal owed;
    in_time = in_time_append start past lines h.in_time in_time;
    noted = noted_append ks start past lines (noted_on js ks start past grown h.noted) noted;
    fit = subst (λ (x : History). Fit g e ks after ws n x) (sym (lines_append start past lines)) (fit_after g stable c d e js ks (history_of past) (with_lines (history_of past) lines) places after ws m n h.fit happens);
  }

  -- a line that tells of nothing
  still_happens : (d : Disk) (js : ℕ → List JournalEntry) (places : List (Place C)) (ws : List ℕ) (n : Summary) (s : History) (x : Line) → Fit g d js places ws n s → IsStill s x → Happens g 64 d d js s (with_line s x) places places (record n { lines = n.lines + 1 })
  still_happens d js places ws n s x fit h =
      let summary = fit.summary in
      let size = summary.lines in
      let calls = h.calls in
      let fewer = summary.fewer in
      let less = summary.less in
      let many = fit.many in
      let counts : CallsCounted s → CallsCounted (with_line s x) = (λ q. record {
        listed = λ c r e. subst (IsListed c) (sym h.callers) (q.listed c r (sym (ap (λ (f : ℕ → Option PendingCall). f c) h.pending) ∙ e));
        calling = λ c l. ap (λ (f : ℕ → Option PendingCall). is_some (f c)) h.pending ∙ q.calling c (subst (IsListed c) h.callers l);
        numbered = λ c r e. (let l = q.numbered c r (sym (ap (λ (f : ℕ → Option PendingCall). f c) h.pending) ∙ e) in omega arith);
        from_one = λ c r e. q.from_one c r (sym (ap (λ (f : ℕ → Option PendingCall). f c) h.pending) ∙ e);
        alone = λ c w r e first last ne. ap (λ (f : ℕ → Option PendingCall). f w) h.pending ∙ q.alone c w r (sym (ap (λ (f : ℕ → Option PendingCall). f c) h.pending) ∙ e) first (last ∙ h.calls) ne;
      }) in
      record {
        transition = laws.line 64 d s (claims_of g places) x fit.kept fit.early (record {
          tree = h.tree;
          weights = h.weights;
          run = h.run;
          calls = omega arith;
          counts = counts;
          pending = λ w ne. ap (λ (f : ℕ → Option PendingCall). f w) h.pending;
          own = λ r e none. inl (record { before = r; was_it = sym (ap (λ (f : ℕ → Option PendingCall). f 64) h.pending) ∙ e; number = refl; fresh = none });
        });
        passes = record { weights = h.weights; calls = omega arith; clean = h.clean; dead = λ w ne. ap (λ (f : ℕ → Bool). f w) h.dead; called = λ w ne. ap (λ (f : ℕ → Bool). f w) h.called; down = h.down };
        logged = record { steps = λ b. fit.logged.steps b ∙ sym (ap (λ f. f b) h.acts); slots = λ b. fit.logged.slots b ∙ sym (ap (λ f. f b) h.changes); dirs = λ b. subst (λ (f : ℕ → List Entry). IsSublist (f b) (copied_slots (js b))) (sym h.dir_changes) (fit.logged.dirs b) };
        summary = record { run = h.run ∙ summary.run; calls = h.calls ∙ summary.calls; lines = omega arith; requests = h.requests ∙ summary.requests; answers = h.answered ∙ summary.answers; places = summary.places; fewer = omega arith; less = omega arith };
        many = refl;
        same = λ w ne. refl;
        own = subst (λ (o : Option (Place C)). ClientFits g d (with_line s x) (claims_of g places) 64 o) (sym (none_at places 64 (omega arith)))
            (ap (λ (f : ℕ → Option PendingCall). f 64) h.pending ∙ subst (ClientFits g d s (claims_of g places) 64) (none_at places 64 (omega arith)) (fit.each 64));
      }

  pub at_still : (d : Disk) (js : ℕ → List JournalEntry) (places : List (Place C)) (ws : List ℕ) (n : Summary) (past : List Line) (x : Line) → At g d js places ws n past → IsStill (history_of past) x → Follows (history_of past) x → (with_line (history_of past) x).owed ≡ None → InTime (history_of past) x → IsNoted js (history_of past) x → At g d js places ws (record n { lines = n.lines + 1 }) (past ++ x ∷ [])
  at_still d js places ws n past x h still follows owed in_time noted =
      at_by 64 d d js js places places ws n (record n { lines = n.lines + 1 }) past (x ∷ []) h (follows, tt) owed (in_time, tt) (λ b i e q. q) (noted, tt) (still_happens d js places ws n (history_of past) x h.fit still)

  -- an event that was refused
  pub at_refused : (d : Disk) (js : ℕ → List JournalEntry) (places : List (Place C)) (ws : List ℕ) (n : Summary) (past : List Line) (line : ℕ) (cause : Cause) → At g d js places ws n past → At g d js places ws (record n { lines = n.lines + 1 }) (past ++ Refused line cause ∷ [])
  at_refused d js places ws n past line cause h = at_still d js places ws n past (Refused line cause) h (still_refused (history_of past) line cause) h.legal.whole refl tt tt

  pub at_down : (d : Disk) (js : ℕ → List JournalEntry) (places : List (Place C)) (ws : List ℕ) (n : Summary) (past : List Line) (b : BrickNo) → b.0 < length (history_of past).weights → At g d js places ws n past → At g d js places ws (record n { lines = n.lines + 1 }) (past ++ WentDown b ∷ [])
  at_down d js places ws n past b there h = at_still d js places ws n past (WentDown b) h (still_down (history_of past) b there) h.legal.whole refl tt tt

  pub at_up : (d : Disk) (js : ℕ → List JournalEntry) (places : List (Place C)) (ws : List ℕ) (n : Summary) (past : List Line) (b : BrickNo) → b.0 < length (history_of past).weights → At g d js places ws n past → At g d js places ws (record n { lines = n.lines + 1 }) (past ++ CameUp b ∷ [])
  at_up d js places ws n past b there h = at_still d js places ws n past (CameUp b) h (still_up (history_of past) b there) h.legal.whole refl tt tt

  -- what is set at a client's place
  pub own_set : (e : Disk) (t : History) (places : List (Place C)) (c : ℕ) (k : Place C) → c < length places → ClientFits g e t (claims_of g (slice_set places c k)) c (Some k) → ClientFits g e t (claims_of g (slice_set places c k)) c (slice_get (slice_set places c k) c)
  own_set e t places c k l h = subst (λ (o : Option (Place C)). ClientFits g e t (claims_of g (slice_set places c k)) c o) (sym (get_set_same places c k l)) h

  -- a client died
  pub at_died : (d e : Disk) (js : ℕ → List JournalEntry) (places : List (Place C)) (ws : List ℕ) (n : Summary) (past : List Line) (c : ℕ) → c < 64 → (history_of past).dead c ≡ false → FreesClient c d e → At g d js places ws n past → At g e js (slice_set places c Dead) ws (record n { lines = n.lines + 1 }) (past ++ Died (client c) ∷ [])
  at_died d e js places ws n past c l living frees h =
      let s = history_of past in
      let t = with_line s (Died (client c)) in
      let fit = h.fit in
      let summary = fit.summary in
      let size = summary.lines in
      let fewer = summary.fewer in
      let less = summary.less in
      let many = fit.many in
      let within : c < length places = omega arith in
      at_by c d e js js places (slice_set places c Dead) ws n (record n { lines = n.lines + 1 }) past (Died (client c) ∷ []) h ((h.legal.whole, living), tt) refl (tt, tt) (λ b i e q. q) (tt, tt) (record {
        transition = subst (λ (q : ℕ → Claim). Transition c d s (claims_of g places) e t q) (claims_set g places c Dead within) (laws.death (client c) d e s (claims_of g places) fit.kept fit.early frees);
        passes = record { weights = refl; calls = omega arith; clean = λ q. absurd (let z : false ≡ true = q in cc); dead = λ w ne. put_other nat_eq exact_nat s.dead c true w ne; called = λ w ne. refl; down = λ b l. refl };
        logged = record { steps = fit.logged.steps; slots = fit.logged.slots; dirs = fit.logged.dirs };
        summary = record { run = summary.run; calls = summary.calls; lines = omega arith; requests = summary.requests; answers = summary.answers; places = summary.places; fewer = omega arith; less = omega arith };
        many = length-set places c Dead;
        same = λ w ne. get_set_other places c Dead w ne;
        own = own_set e t places c Dead within (put_same nat_eq exact_nat s.dead c true, put_same nat_eq exact_nat s.pending c None);
      })

  -- what an idle client claims
  pub idle_claims : (x : C) (n : CallNo) → g.is_busy x ≡ false → claim_at g (Some (Living x n)) ≡ no_claim
  idle_claims x n idle = ap (λ (b : Bool). if b then (g.stage x).claims else no_claim) idle

  pub busy_claims : (x : C) (n : CallNo) → g.is_busy x ≡ true → claim_at g (Some (Living x n)) ≡ (g.stage x).claims
  busy_claims x n busy = ap (λ (b : Bool). if b then (g.stage x).claims else no_claim) busy

  -- a client that claims nothing holds no lock, so it may claim any
  pub may_begin : (d : Disk) (s : History) (p : ℕ → Claim) (c : ℕ) (new : Claim) → Rattle.dht_section.specs.Invariant.Invariant d s p → p c ≡ no_claim → new.copy ≡ None → MayClaim d.count (λ b key. holders d b key c) (p c) new
  may_begin d s p c new kept none copy = record {
    locks = λ b key m l e. absurd (subst (λ (x : Claim). Listed x.locks b key) none ((kept.things.locks b key l).claimed c m e));
    copy = λ f dest. (let z : place_in new.copy f dest ≡ 0 = ap (λ o. place_in o f dest) copy in omega arith);
  }
