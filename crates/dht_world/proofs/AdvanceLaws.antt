-- How a step of a client's call is taken: its request, what the client claims next, and its answer.
use Rattle.std.proofs.Common.{◌≡◌, ◌≢◌, ◌<◌, ◌≤◌, ◌+◌, ◌-◌, ◌^◌, ◌↔◌, ℕ, Bool, true, false, List, [], ◌∷◌, ◌++◌, refl, sym, ap, ◌∙◌, subst, length, arith}
use Rattle.std.specs.Prelude.{Option, Some, None, is_some, not, nat_eq, MatchBool, slice_get, slice_set}
use Rattle.std.proofs.Math.ListN.{length-set}
use Rattle.dht_types.specs.Put.{put}
use Rattle.dht_types.proofs.PutLaws.{put_same, put_other, exact_nat}
use Rattle.dht_types.specs.Calls.{refusal_at_once}
use Rattle.dht_types.specs.Cost.{cost}
use Rattle.dht_types.specs.Volume.{replay_names}
use Rattle.dht_types.specs.History.{History, PendingCall, IsUndisturbed, gfid_in, with_line, with_lines, history_of}
use Rattle.dht_types.proofs.HistoryLaws.{lines_append, legal_append}
use Rattle.dht_types.specs.declared.calls.Call.{Call}
use Rattle.dht_types.specs.declared.identifiers.CallNo.{CallNo}
use Rattle.dht_types.specs.declared.identifiers.ClientNo.{ClientNo}
use Rattle.dht_types.specs.declared.identifiers.Gfid.{Gfid}
use Rattle.dht_types.specs.declared.lines.Line.{Line}
use Rattle.dht_types.specs.declared.lines.Line.TheVariants.{Waited, Answered}
use Rattle.dht_brick.specs.Bricks.{ServesOrFails, is_unreachable, unless_down}
use Rattle.dht_brick.specs.Kinds.{kind_of, reply_kind}
use Rattle.dht_brick.specs.Memory.{NeverTakesMemory}
use Rattle.dht_brick.specs.Contents.{Contents}
use Rattle.dht_brick.specs.Named.{entry_of}
use Rattle.dht_brick.specs.Outcome.{Await}
use Rattle.dht_brick.specs.Rows.{row}
use Rattle.dht_brick.specs.declared.journal.JournalEntry.{JournalEntry}
use Rattle.dht_brick.specs.declared.replies.Reply.{Reply}
use Rattle.dht_brick.specs.declared.replies.Reply.TheVariants.{Wait, Down, Failed, NoMemory}
use Rattle.dht_brick.specs.declared.requests.Request.{Request}
use Rattle.dht_section.specs.declared.machine.Ask.{Ask}
use Rattle.dht_section.specs.declared.machine.Finish.{Finish}
use Rattle.dht_section.specs.Claims.{Claim, no_claim}
use Rattle.dht_section.specs.Disk.{Disk, ChangesOneBrick}
use Rattle.dht_section.specs.FirstLookup.{FindsSoon}
use Rattle.dht_section.specs.Moves.{Guarantee, outcome_of}
use Rattle.dht_section.specs.Permits.{Permitted}
use Rattle.dht_section.specs.Scene.{Scene, Sound}
use Rattle.dht_section.specs.Stages.{Served, MaySend, IsCallStable, GoesOn, EndsIn, LeavesWhole, call_answered, is_wait}
use Rattle.dht_section.specs.declared.caller.Caller.{Ghosts as CallerGhosts}
use Rattle.dht_invariant.specs.Laws.{TransitionLaws}
use Rattle.dht_invariant.specs.Transition.{scene, Transition}
use Rattle.dht_world.specs.Clients.{client, claim_at, claims_of, Rests, Works, ClientFits}
use Rattle.dht_world.specs.Following.{IsStep, IsWait}
use Rattle.dht_world.specs.Lines.{step_line, request_lines}
use Rattle.dht_world.specs.World.{Summary, At, EndsWell}
use Rattle.dht_world.specs.declared.places.Place.{Place}
use Rattle.dht_world.specs.declared.places.Place.TheVariants.{Living}
use Rattle.dht_world.proofs.AnsweredLaws.{answered_set}
use Rattle.dht_world.proofs.AtLaws.{at_by, own_set, idle_claims, busy_claims, rely_claimed}
use Rattle.dht_world.proofs.BlockLaws.{Told}
use Rattle.dht_world.proofs.BrickLaws.{get_set_other}
use Rattle.dht_world.proofs.ClientLaws.{Happens, holders_call, claims_set, busy_is}
use Rattle.dht_world.proofs.CountLaws.{Passes, passes_on, undisturbed_before}
use Rattle.dht_invariant.proofs.CountedLaws.{counted_ended, none_if}
use Rattle.dht_world.proofs.EndLaws.{end_answered}
use Rattle.dht_world.proofs.LineLaws.{in_time_append}
use Rattle.dht_world.proofs.NotedLaws.{Extends, extends_served, noted_append}
use Rattle.dht_world.proofs.RefusalLaws.{heeds_none}
use Rattle.dht_world.proofs.StepLaws.{lines_there, waits_is_lock, never_waits, held_by, wait_is_up, down_as_told, sound_as_told, unlock_kind, unlock_is_carried}
use Rattle.dht_world.proofs.WentLaws.{Sent, Went, went, and_first}

-- a brick was asked, and answered
pub record Answers (d : Disk) (js : ℕ → List JournalEntry) (down : ℕ → Bool) (c : ℕ) (k : CallNo) (a : Ask) (r : Reply) (e : Disk) (ks : ℕ → List JournalEntry) : Type 0 where
  pub new : Contents
  pub served : ServesOrFails (row (replay_names d.count) (client c) k a.request (d.brick a.brick.0)) (d.brick a.brick.0) r new
  pub is_down : (r ≡ Down) ↔ (is_unreachable (not (down a.brick.0)) a.request ≡ true)
  pub sound : r ≢ Failed
  pub memory : NeverTakesMemory a.request → r ≢ NoMemory
  pub changes : ChangesOneBrick d a.brick.0 new e
  pub noted : ks ≡ put nat_eq js a.brick.0 (unless_down r (js a.brick.0) (js a.brick.0 ++ entry_of (client c) k a.request r ∷ []))

module _ {C : Type 0} (g : CallerGhosts C) (laws : TransitionLaws) (stable : (x : C) → IsCallStable (g.stage x)) (permitted : (x : C) → g.is_busy x ≡ true → MaySend (g.stage x)) (goes_on : (x : C) → g.is_busy x ≡ true → 0 < (g.stage x).variant) where
  -- the client of a place has a pending call
  pub works_at : (d : Disk) (js : ℕ → List JournalEntry) (places : List (Place C)) (ws : List ℕ) (n : Summary) (past : List Line) (c : ℕ) (x : C) (k : CallNo) → At g d js places ws n past → slice_get places c ≡ Some (Living x k) → g.is_busy x ≡ true → Works g d (history_of past) (claims_of g places) c x k
  works_at d js places ws n past c x k h here busy =
      let fits : ClientFits g d (history_of past) (claims_of g places) c (Some (Living x k)) = subst (ClientFits g d (history_of past) (claims_of g places) c) here (h.fit.each c) in
      busy_is _ _ (g.is_busy x) busy fits.2

  -- it may send its request
  pub may_ask : (d : Disk) (js : ℕ → List JournalEntry) (places : List (Place C)) (ws : List ℕ) (n : Summary) (past : List Line) (c : ℕ) (x : C) (k : CallNo) (a : Ask) (h : At g d js places ws n past) → (here : slice_get places c ≡ Some (Living x k)) → (busy : g.is_busy x ≡ true) → a ≡ (g.stage x).asks → Permitted (scene d (history_of past) (claims_of g places) (client c) (works_at d js places ws n past c x k h here busy).mine) a
  may_ask d js places ws n past c x k a h here busy ea =
      let works = works_at d js places ws n past c x k h here busy in
      let s = scene d (history_of past) (claims_of g places) (client c) works.mine in
      subst (Permitted s) (sym ea) (permitted x busy s
      (record { kept = h.fit.kept; early = h.fit.early; runs = works.runs; begun = works.begun })
      (record { claims = ap (claim_at g) here ∙ busy_claims g laws stable x k busy; knows = works.knows }))

  module _ (d e : Disk) (js ks : ℕ → List JournalEntry) (places : List (Place C)) (ws : List ℕ) (n : Summary) (past : List Line) (c : ℕ) (x : C) (k : CallNo) (a : Ask) (r : Reply) (h : At g d js places ws n past) (l : c < 64) (here : slice_get places c ≡ Some (Living x k)) (busy : g.is_busy x ≡ true) (ea : a ≡ (g.stage x).asks) (small : n.lines < 2 ^ 64) (v : Answers d js (history_of past).down c k a r e ks) where
    abbrev before_lines : History
    before_lines = history_of past

    abbrev after_lines : History
    after_lines = with_lines (history_of past) (request_lines k (client c) a r)

    abbrev claims : ℕ → Claim
    claims = claims_of g places

    works : Works g d before_lines claims c x k
    works = works_at d js places ws n past c x k h here busy

    pub mine : PendingCall
    mine = works.mine

    pub now : Scene
    now = scene d before_lines claims (client c) mine

    sound_now : Sound now
    unfolding now mine
    sound_now = record { kept = h.fit.kept; early = h.fit.early; runs = works.runs; begun = works.begun }

    claims_now : claims c ≡ (g.stage x).claims
    claims_now = ap (claim_at g) here ∙ busy_claims g laws stable x k busy

    may_send : Permitted now a
    unfolding now mine works works_at
    may_send = may_ask d js places ws n past c x k a h here busy ea

    served_now : ServesOrFails (outcome_of now a) (d.brick a.brick.0) r v.new
    unfolding now mine
    served_now = subst (λ (y : CallNo). ServesOrFails (row (replay_names (length before_lines.weights)) (client c) y a.request (d.brick a.brick.0)) (d.brick a.brick.0) r v.new) (sym works.number)
        (subst (λ (i : ℕ). ServesOrFails (row (replay_names i) (client c) k a.request (d.brick a.brick.0)) (d.brick a.brick.0) r v.new) h.fit.kept.counted v.served)

    -- a call that nobody disturbed is not told to wait
    calm_by : (y : Reply) → r ≡ y → IsUndisturbed before_lines mine → is_wait y ≡ false
    unfolding now mine
    calm_by (Wait holder) er u =
        let served : ServesOrFails (outcome_of now a) (d.brick a.brick.0) (Wait holder) v.new = subst (λ (y : Reply). ServesOrFails (outcome_of now a) (d.brick a.brick.0) y v.new) er served_now in
        let lock = waits_is_lock now a (replay_names (length before_lines.weights)) (client c) mine.number (d.brick a.brick.0) holder may_send served.0 in
        absurd (never_waits (replay_names (length before_lines.weights)) (client c) mine.number lock.key lock.mode (d.brick a.brick.0) holder
        (λ other ne. none_if ((d.brick a.brick.0).locks lock.key other) (λ m held. (
        let some : is_some (before_lines.pending other) ≡ true = holders_call g d js places ws n before_lines h.fit a.brick.0 lock.key other m may_send.there held in
        let none : before_lines.pending other ≡ None = h.fit.kept.counts.alone c other mine works.runs u.first u.last ne in
        let z : false ≡ true = sym (ap is_some none) ∙ some in
        cc)))
        (subst (λ (q : Request). row (replay_names (length before_lines.weights)) (client c) mine.number q (d.brick a.brick.0) ≡ Await holder) lock.is served.0))
    calm_by y er u = refl

    -- what its line tells
    told_wait : (holder : ClientNo) → r ≡ Wait holder → IsWait before_lines c mine (Waited k (client c) a.brick holder)
    unfolding now mine
    told_wait holder er =
        let served : ServesOrFails (outcome_of now a) (d.brick a.brick.0) (Wait holder) v.new = subst (λ (y : Reply). ServesOrFails (outcome_of now a) (d.brick a.brick.0) y v.new) er served_now in
        let lock = waits_is_lock now a (replay_names (length before_lines.weights)) (client c) mine.number (d.brick a.brick.0) holder may_send served.0 in
        let held = held_by (replay_names (length before_lines.weights)) (client c) mine.number lock.key lock.mode (d.brick a.brick.0) holder
        (subst (λ (q : Request). row (replay_names (length before_lines.weights)) (client c) mine.number q (d.brick a.brick.0) ≡ Await holder) lock.is served.0) in
        record {
          brick = a.brick;
          holder = holder;
          is = ap (λ (y : CallNo). Waited y (client c) a.brick holder) (sym works.number);
          there = subst (λ (m : ℕ). a.brick.0 < m) h.fit.kept.counted may_send.there;
          up = wait_is_up (before_lines.down a.brick.0) lock.key lock.mode holder
              (subst (λ (q : Request). (Wait holder ≡ Down) ↔ (is_unreachable (not (before_lines.down a.brick.0)) q ≡ true)) lock.is
              (subst (λ (y : Reply). (y ≡ Down) ↔ (is_unreachable (not (before_lines.down a.brick.0)) a.request ≡ true)) er v.is_down));
          other = held.0;
          pending = holders_call g d js places ws n before_lines h.fit a.brick.0 lock.key holder.0 held.1 may_send.there held.2;
        }

    told_step : is_wait r ≡ false → IsStep before_lines c mine (step_line k (client c) a r)
    unfolding now mine
    told_step calm = record {
      brick = a.brick;
      request = kind_of a.request;
      reply = reply_kind r;
      is = ap (λ (y : CallNo). step_line y (client c) a r) (sym works.number);
      there = subst (λ (m : ℕ). a.brick.0 < m) h.fit.kept.counted may_send.there;
      down = down_as_told (before_lines.down a.brick.0) a.request r v.is_down;
      sound = sound_as_told r v.sound calm;
      unlocked = λ e. unlock_is_carried (replay_names d.count) (client c) k a.request (d.brick a.brick.0) v.new (not (before_lines.down a.brick.0)) r v.served v.is_down v.sound v.memory (unlock_kind a.request e);
    }

    pub told : Told before_lines c mine k a r
    unfolding mine
    told = record { runs = works.runs; step = told_step; wait = told_wait }

    sent : Sent d js before_lines claims (client c) mine k a r e ks
    unfolding now mine
    sent =
        let summary = h.fit.summary in
        let fewer = summary.fewer in
        let count = summary.calls in
        let some = goes_on x busy in
        record {
          logged = h.fit.logged;
          counted = h.fit.kept.counts;
          owed = h.legal.whole;
          runs = works.runs;
          number = works.number;
          named = works.named;
          small = omega arith;
          client = omega arith;
          begun = works.begun;
          in_time = λ u. (let bound = works.in_time u in omega arith);
          calm = λ u. subst (λ (y : Reply). is_wait y ≡ false) refl (calm_by r refl u);
          permitted = may_send;
          new = v.new;
          served = served_now;
          is_up = not (before_lines.down a.brick.0);
          down = v.is_down;
          sound = v.sound;
          memory = v.memory;
          changes = v.changes;
          journals = v.noted;
        }

    pub gone : Went d before_lines claims (client c) mine a r e ks (request_lines k (client c) a r) after_lines
    gone = went d js before_lines claims (client c) mine k a r e ks sent

    grown : Extends js ks
    grown = extends_served js ks a.brick.0 r (entry_of (client c) k a.request r) v.noted

    pub then_mine : PendingCall
    then_mine = gone.mine_then

    pub next_scene : Scene
    next_scene = scene e after_lines claims (client c) then_mine

    requested : Transition c d before_lines claims e after_lines claims
    unfolding now mine then_mine next_scene
    requested = laws.request now next_scene a r gone.moved sound_now may_send gone.only

    pub answer_served : (at : ℕ) → at ≡ after_lines.size → Served (g.stage x) r at now next_scene
    unfolding now mine then_mine next_scene
    answer_served at line = record {
      before = sound_now;
      after = record { kept = requested.kept; early = requested.early; runs = gone.runs; begun = gone.begun };
      is_at = record { claims = claims_now; knows = works.knows };
      moved = subst (λ (y : Ask). Guarantee now y r next_scene) ea gone.moved;
      line = line;
    }

    -- the client claims something else
    claimed : (new : Claim) → Rattle.dht_section.specs.Stages.MayClaimNext next_scene (g.stage x).claims new → Transition c d before_lines claims e after_lines (put nat_eq claims c new)
    unfolding now mine then_mine next_scene
    claimed new may =
        let two = laws.claim c e after_lines claims new requested.kept requested.early (subst (λ (y : Claim). Rattle.dht_section.specs.Claims.MayClaim e.count (λ b key. Rattle.dht_section.specs.Disk.holders e b key c) y new) (sym claims_now) may) in
        laws.compose c d e e before_lines after_lines after_lines claims claims (put nat_eq claims c new) h.fit.kept requested two

    abbrev summary_then : Summary
    summary_then = record n { lines = n.lines + length (request_lines k (client c) a r); requests = n.requests + 1 }

    -- the call goes on
    pub at_on : (y : C) (new : Place C) → new ≡ Living y k → g.number y ≡ g.number x → g.is_busy y ≡ true → GoesOn (g.stage x) (g.stage y) r next_scene → At g e ks (slice_set places c new) ws summary_then (past ++ request_lines k (client c) a r)
    unfolding now mine then_mine next_scene
    at_on y new is same busy_then goes =
        let w = gone in
        let summary = h.fit.summary in
        let size = w.size in
        let was = summary.lines in
        let requests = w.requests in
        let requests_were = summary.requests in
        let calls = w.only.calls in
        let calls_were = summary.calls in
        let fewer = summary.fewer in
        let less = summary.less in
        let many = h.fit.many in
        let within : c < length places = omega arith in
        let set : put nat_eq claims c (g.stage y).claims ≡ claims_of g (slice_set places c new) =
        ap (put nat_eq claims c) (sym (busy_claims g laws stable y k busy_then) ∙ ap (λ (z : Place C). claim_at g (Some z)) (sym is)) ∙ claims_set g places c new within in
        let fits : ClientFits g d before_lines claims c (Some (Living x k)) = subst (ClientFits g d before_lines claims c) here (h.fit.each c) in
        at_by g laws stable c d e js ks places (slice_set places c new) ws n summary_then past (request_lines k (client c) a r) h w.legal w.owed w.in_time grown w.noted (record {
          transition = subst (λ (q : ℕ → Claim). Transition c d before_lines claims e after_lines q) set (claimed (g.stage y).claims goes.claims);
          passes = w.passes;
          logged = w.logged;
          summary = record { run = w.same_run ∙ summary.run; calls = omega arith; lines = omega arith; requests = omega arith; answers = w.same_answered ∙ summary.answers; places = summary.places; fewer = omega arith; less = (let more = lines_there k (client c) a r in omega arith) };
          many = length-set places c new;
          same = λ i ne. get_set_other places c new i ne;
          own = own_set g laws stable e after_lines places c new within (subst (λ (z : Place C). ClientFits g e after_lines (claims_of g (slice_set places c new)) c (Some z)) (sym is) (
            ap (λ (f : ℕ → Bool). f c) w.same_dead ∙ fits.0,
            same ∙ fits.1,
            subst (λ (b : Bool). MatchBool b (Works g e after_lines (claims_of g (slice_set places c new)) c y k) (Rests g after_lines c y)) (sym busy_then) (record {
              mine = then_mine;
              runs = w.runs;
              number = w.moved.mine.number ∙ works.number;
              named = ap (λ (q : Call Gfid). refusal_at_once q) w.same_call ∙ works.named;
              called = ap (λ (f : ℕ → Bool). f c) w.same_called ∙ works.called;
              begun = w.begun;
              knows = stable y next_scene (scene e after_lines (claims_of g (slice_set places c new)) (client c) then_mine) goes.knows (rely_claimed e after_lines claims (claims_of g (slice_set places c new)) c then_mine) refl;
              in_time = λ u. (let before = undisturbed_before c before_lines after_lines mine then_mine w.passes (h.fit.kept.counts.numbered c mine works.runs) (ap (λ (q : CallNo). q.0) w.moved.mine.number) w.moved.mine.alone u in
                  let bound = works.in_time before in
                  let nearer = (goes.nearer u).0 (calm_by r refl before) in
                  let steps = w.steps in
                  subst (λ (q : Call Gfid). then_mine.steps + (g.stage y).variant ≤ cost (length after_lines.weights) q) (sym w.same_call)
                  (subst (λ (q : List ℕ). then_mine.steps + (g.stage y).variant ≤ cost (length q) mine.call) (sym w.passes.weights) (omega arith)));
            }),
          ));
        })

    abbrev summary_ended : Finish → Summary
    summary_ended f = record n { lines = n.lines + length (request_lines k (client c) a r) + 1; requests = n.requests + 1; answers = slice_set n.answers (k.0 - 1) (gfid_in f.answer) }

    -- the call has a place for its answer
    pub call_there : (0 < k.0) × (k.0 ≤ length n.answers)
    unfolding mine works
    call_there =
        let number : mine.number.0 ≡ k.0 = ap (λ (q : CallNo). q.0) works.number in
        let some = h.fit.kept.counts.from_one c mine works.runs in
        let given = h.fit.kept.counts.numbered c mine works.runs in
        let calls = h.fit.summary.calls in
        let room = h.fit.summary.places in
        (omega arith, omega arith)

    -- the call answers
    pub at_answered : (y : C) (new : Place C) (f : Finish) → new ≡ Living y k → g.number y ≡ g.number x → g.is_busy y ≡ false → EndsIn (g.stage x) (call_answered f) next_scene → At g e ks (slice_set places c new) ws (summary_ended f) (past ++ (request_lines k (client c) a r ++ Answered k (client c) f.at f.answer ∷ []))
    unfolding now mine then_mine next_scene
    at_answered y new f is same idle ends =
        let w = gone in
        let summary = h.fit.summary in
        let size = w.size in
        let was = summary.lines in
        let requests = w.requests in
        let requests_were = summary.requests in
        let calls = w.only.calls in
        let calls_were = summary.calls in
        let fewer = summary.fewer in
        let less = summary.less in
        let many = h.fit.many in
        let more = lines_there k (client c) a r in
        let within : c < length places = omega arith in
        let xs = request_lines k (client c) a r in
        let end = Answered k (client c) f.at f.answer in
        let u = with_line after_lines end in
        let all : with_lines before_lines (xs ++ end ∷ []) ≡ u = lines_append before_lines xs (end ∷ []) in
        let number_then : then_mine.number ≡ k = w.moved.mine.number ∙ works.number in
        let set : put nat_eq claims c no_claim ≡ claims_of g (slice_set places c new) =
        ap (put nat_eq claims c) (sym (idle_claims g laws stable y k idle) ∙ ap (λ (z : Place C). claim_at g (Some z)) (sym is)) ∙ claims_set g places c new within in
        let fits : ClientFits g d before_lines claims c (Some (Living x k)) = subst (ClientFits g d before_lines claims c) here (h.fit.each c) in
        let two = claimed no_claim ends.claims in
        let three = laws.line c e after_lines (put nat_eq claims c no_claim) end two.kept two.early (record {
          tree = refl;
          weights = refl;
          run = refl;
          calls = omega arith;
          counts = λ q. counted_ended after_lines u c q refl refl refl;
          pending = λ i ne. put_other nat_eq exact_nat after_lines.pending c None i ne;
          own = λ o q fresh. absurd (let z : None ≡ Some o = sym (put_same nat_eq exact_nat after_lines.pending c None) ∙ q in cc);
        }) in
        let both = laws.compose c d e e before_lines after_lines u claims (put nat_eq claims c no_claim) (put nat_eq claims c no_claim) h.fit.kept two three in
        let last : Passes c after_lines u = record { weights = refl; calls = omega arith; clean = and_first after_lines.clean _; dead = λ i ne. refl; called = λ i ne. refl; down = λ b l. refl } in
        let happens : Happens g c d e ks before_lines u places (slice_set places c new) (summary_ended f) = record {
          transition = subst (λ (q : ℕ → Claim). Transition c d before_lines claims e u q) set both;
          passes = passes_on c before_lines after_lines u w.passes last;
          logged = record { steps = w.logged.steps; slots = w.logged.slots; dirs = w.logged.dirs };
          summary = record {
            run = w.same_run ∙ summary.run;
            calls = omega arith;
            lines = omega arith;
            requests = omega arith;
            answers = ap (λ (q : ℕ → Option Gfid). put nat_eq q k.0 (gfid_in f.answer)) (w.same_answered ∙ summary.answers) ∙ answered_set n.answers k.0 (gfid_in f.answer) call_there.0 call_there.1;
            places = length-set n.answers (k.0 - 1) (gfid_in f.answer) ∙ summary.places;
            fewer = omega arith;
            less = omega arith;
          };
          many = length-set places c new;
          same = λ i ne. get_set_other places c new i ne;
          own = own_set g laws stable e u places c new within (subst (λ (z : Place C). ClientFits g e u (claims_of g (slice_set places c new)) c (Some z)) (sym is) (
            ap (λ (q : ℕ → Bool). q c) w.same_dead ∙ fits.0,
            same ∙ fits.1,
            subst (λ (b : Bool). MatchBool b (Works g e u (claims_of g (slice_set places c new)) c y k) (Rests g u c y)) (sym idle) (record {
              none = put_same nat_eq exact_nat after_lines.pending c None;
              fresh = λ q. absurd (let z : true ≡ false = sym (ap (λ (f : ℕ → Bool). f c) w.same_called ∙ works.called) ∙ q in cc);
            }),
          ));
        } in
        at_by g laws stable c d e js ks places (slice_set places c new) ws n (summary_ended f) past (xs ++ end ∷ []) h
        (legal_append before_lines xs (end ∷ []) w.legal ((w.owed, (then_mine, record { runs = w.runs; number = number_then }, ends.earned.0, heeds_none then_mine f.answer (ap (λ (q : Call Gfid). refusal_at_once q) w.same_call ∙ works.named))), tt))
        (ap (λ (q : History). q.owed) all)
        (in_time_append before_lines xs (end ∷ []) w.in_time (tt, tt))
        grown (noted_append ks before_lines xs (end ∷ []) w.noted (tt, tt))
        (subst (λ (q : History). Happens g c d e ks before_lines q places (slice_set places c new) (summary_ended f)) (sym all) happens)

    -- and what the answer tells of a call that was alone holds then
    pub ends_then : (f : Finish) → LeavesWhole f next_scene → FindsSoon f next_scene → EndsWell e (past ++ (request_lines k (client c) a r ++ Answered k (client c) f.at f.answer ∷ []))
    unfolding then_mine next_scene
    ends_then f whole soon = end_answered e past (request_lines k (client c) a r) k (client c) f then_mine gone.runs whole soon
