-- What an event that is accepted makes of a world.
use Rattle.std.proofs.Common.{◌≡◌, ◌<◌, ◌+◌, ℕ, Bool, true, false, List, [], ◌∷◌, ◌++◌, refl, sym, ap, ◌∙◌, subst, length, arith, get_or, Result, Ok, Err}
use Rattle.std.specs.Prelude.{Option, Some, None, is_some, nat_eq, slice_get, slice_set, map}
use Rattle.std.proofs.lemmas.Option.{slice_get_read}
use Rattle.dht_types.specs.Put.{put}
use Rattle.dht_types.specs.Calls.{named_call, refusal_at_start}
use Rattle.dht_types.specs.History.{History, start, history_of}
use Rattle.dht_types.proofs.HistoryLaws.{lines_append}
use Rattle.dht_types.specs.declared.calls.Answer.TheVariants.{Fault}
use Rattle.dht_types.specs.declared.calls.Call.{Call}
use Rattle.dht_types.specs.declared.errors.Errno.{Errno}
use Rattle.dht_types.specs.declared.events.Directory.{Directory}
use Rattle.dht_types.specs.declared.events.Event.{Event}
use Rattle.dht_types.specs.declared.events.Event.TheVariants as event
use Rattle.dht_types.specs.declared.identifiers.CallNo.{CallNo}
use Rattle.dht_types.specs.declared.identifiers.BrickNo.{BrickNo}
use Rattle.dht_types.specs.declared.identifiers.Gfid.{Gfid}
use Rattle.dht_types.specs.declared.lines.Line.{Line}
use Rattle.dht_types.specs.declared.lines.Line.TheVariants.{Called, Answered, WentDown, CameUp, Died}
use Rattle.dht_brick.specs.declared.brick.Brick.{Ghosts as BrickGhosts}
use Rattle.dht_brick.specs.declared.journal.JournalEntry.{JournalEntry}
use Rattle.dht_section.specs.Begins.{IsRefusal}
use Rattle.dht_section.specs.Disk.{Disk}
use Rattle.dht_section.specs.declared.caller.Caller.{Ghosts as CallerGhosts}
use Rattle.dht_section.specs.Stages.{IsCallStable}
use Rattle.dht_invariant.specs.Laws.{TransitionLaws}
use Rattle.dht_world.specs.Answers.{answered_in}
use Rattle.dht_world.specs.Bricks.{disk_of, journals_of, AreReady, without_client}
use Rattle.dht_world.specs.Clients.{client, IsIdle, Starts}
use Rattle.dht_world.specs.Following.{Block, Accepted, cause_of, brick_cause, call_cause, step_cause, refusal_point}
use Rattle.dht_world.specs.Places.{IsAt, Advances, Adds, summary_of}
use Rattle.dht_world.specs.World.{At}
use Rattle.dht_world.specs.declared.events.World.{World}
use Rattle.dht_world.specs.declared.places.Place.{Place}
use Rattle.dht_world.specs.declared.places.Place.TheVariants.{Living, Dead}
use Rattle.dht_world.proofs.AtLaws.{at_died, at_down, at_up, down_after}
use Rattle.dht_world.proofs.BlockLaws.{block_alone, block_under, not_refused}
use Rattle.dht_world.proofs.BrickLaws.{nothing_beyond, ready_down, up_disk_at, up_journals_at, frees, freed_journals, freed_ready}
use Rattle.dht_world.proofs.CauseLaws.{accepted_client, accepted_brick, idle_at, no_call}
use Rattle.dht_world.proofs.ClientLaws.{holders_call}
use Rattle.dht_world.proofs.RefusalLaws.{with_call, at_called, at_refused_call, under_begun, under_refused}

-- what stands at a place of a list
pub place_is :
    {A : Type 0} (xs : List A) (c : ℕ) (old : A) → c < length xs → old ≡ get_or xs c old
    → slice_get xs c ≡ Some old
place_is xs c old l was = slice_get_read xs (length xs) c old refl l was

same_client : {C : Type 0} (x y : C) (m n : CallNo) → Living x m ≡ Living y n → x ≡ y
same_client x y m n e = cc

module _ {B C : Type 0} (b : BrickGhosts B) (g : CallerGhosts C) where
  pub advances : (old new : World B C) (n : ℕ) (e : Event) (past lines : List Line) → IsAt b g new (past ++ lines) → Block (history_of past) n e lines → cause_of (history_of past) e ≡ None → Advances b g old new n e past lines
  advances old new n e past lines at block accepted = record {
    at = at;
    block = block;
    held = holders_call g (disk_of b.state new.bricks.items) (journals_of b.state new.bricks.items) new.clients.items new.weights (summary_of new) (history_of (past ++ lines)) at.led.fit;
    refused = λ h. not_refused (history_of past) e accepted h;
  }

  -- one line more, which stands alone
  pub adds_one : (old new : World B C) (n : ℕ) (e : Event) (past before after : List Line) (x : Line) → after ≡ before ++ x ∷ [] → IsAt b g new (past ++ x ∷ []) → Block (history_of past) n e (x ∷ []) → cause_of (history_of past) e ≡ None → Adds b g old new n e past before after
  adds_one old new n e past before after x added at block accepted = (x ∷ [], added, advances old new n e past (x ∷ []) at block accepted)

  module _ (laws : TransitionLaws) (stable : (x : C) → IsCallStable (g.stage x)) where
    -- a client called
    module _ (w : World B C) (past : List Line) (c i : ℕ) (call : Call Directory) (what : Call Gfid) (old new : Place C) (begun : Result (Unit {0}) Errno) (at : IsAt b g w past) (ei : i ≡ c) (was : old ≡ get_or w.clients.items i old) (accepted : cause_of (history_of past) (event.Call c call) ≡ None) (v : Starts g old w.weights w.run (record { 0 = w.calls + 1 }) what begun new) where
      abbrev number : CallNo
      number = record { 0 = w.calls + 1 }

      abbrev d : Disk
      d = disk_of b.state w.bricks.items

      abbrev js : ℕ → List JournalEntry
      js = journals_of b.state w.bricks.items

      there : (c < 64) × (slice_get w.clients.items c ≡ Some old)
      there =
          let s = history_of past in
          let l = (accepted_client g s c (call_cause (s.pending c) (named_call s.answered call)) accepted).0 in
          let many = at.led.fit.many in
          (l, place_is w.clients.items c old (omega arith) (subst (λ (j : ℕ). old ≡ get_or w.clients.items j old) ei was))

      free : g.is_busy v.before ≡ false
      free =
          let idle = idle_at g d js w.clients.items w.weights (summary_of w) (history_of past) at.led.fit c call old there.1 accepted in
          ap g.is_busy (same_client v.before idle.client v.number idle.number (sym v.was ∙ idle.is)) ∙ idle.idle

      -- and the call begins; what the calls answered stands in a list with one place more
      pub called_at : (xs : List (Option Gfid)) → xs ≡ w.answers.items ++ None ∷ [] → begun ≡ Ok tt → At g d js (slice_set w.clients.items i new) w.weights (record (summary_of w) { calls = w.calls + 1; lines = w.lines + 1; answers = xs }) (past ++ Called number (client c) what ∷ [])
      called_at xs ex eb = subst (λ (ys : List (Option Gfid)). At g d js (slice_set w.clients.items i new) w.weights (record (summary_of w) { calls = w.calls + 1; lines = w.lines + 1; answers = ys }) (past ++ Called number (client c) what ∷ [])) (sym ex)
          (subst (λ (j : ℕ). At g d js (slice_set w.clients.items j new) w.weights (with_call g laws stable (summary_of w) (w.lines + 1)) (past ++ Called number (client c) what ∷ [])) (sym ei)
          (at_called g laws stable d js w.clients.items w.weights (summary_of w) past c number what old new begun there.0 there.1 v free refl at.led eb))

      -- or it is refused before its first request
      abbrev pub refused_lines : Errno → List Line
      refused_lines e = Called number (client c) what ∷ Answered number (client c) (refusal_point (w.lines + 1) e) (Fault e) ∷ []

      pub refused_at : (e : Errno) (xs : List (Option Gfid)) → xs ≡ w.answers.items ++ None ∷ [] → begun ≡ Err e → At g d js (slice_set w.clients.items i new) w.weights (record (summary_of w) { calls = w.calls + 1; lines = w.lines + 1 + 1; answers = xs }) (past ++ refused_lines e)
      refused_at e xs ex eb = subst (λ (ys : List (Option Gfid)). At g d js (slice_set w.clients.items i new) w.weights (record (summary_of w) { calls = w.calls + 1; lines = w.lines + 1 + 1; answers = ys }) (past ++ refused_lines e)) (sym ex)
          (subst (λ (j : ℕ). At g d js (slice_set w.clients.items j new) w.weights (with_call g laws stable (summary_of w) (w.lines + 1 + 1)) (past ++ refused_lines e)) (sym ei)
          (at_refused_call g laws stable d js w.clients.items w.weights (summary_of w) past c number what old new begun there.0 there.1 v free refl at.led e eb (nothing_beyond b.state w.bricks.items)))

      pub refused_down : (e : Errno) → (history_of (past ++ refused_lines e)).down ≡ (history_of past).down
      refused_down e = ap (λ (s : History). s.down) (lines_append start past (refused_lines e))

      -- its lines are the event's
      accepts : named_call (answered_in w.answers.items) call ≡ Some what → Accepted (history_of past) (event.Call c call) (Called number (client c) what)
      accepts named = (
        what,
        ap (λ (f : ℕ → Option Gfid). named_call f call) at.led.fit.summary.answers ∙ named,
        ap (λ (m : ℕ). Called (record { 0 = m + 1 }) (client c) what) (sym at.led.fit.summary.calls),
      )

      bricks : length w.weights ≡ length (history_of past).weights
      bricks = ap (λ (ws : List ℕ). length ws) (sym at.led.fit.same_weights)

      pub called_block : (n : ℕ) → named_call (answered_in w.answers.items) call ≡ Some what → begun ≡ Ok tt → Block (history_of past) n (event.Call c call) (Called number (client c) what ∷ [])
      called_block n named eb = block_alone (history_of past) n (event.Call c call) (Called number (client c) what) accepted (accepts named)
          (under_begun ((history_of past).size + 1) number (client c) (refusal_at_start (length (history_of past).weights) what)
          (subst (λ (m : ℕ). IsRefusal (refusal_at_start m what) (Ok tt)) bricks (subst (IsRefusal (refusal_at_start (length w.weights) what)) eb v.refused)))

      pub refused_block : (n : ℕ) (e : Errno) → named_call (answered_in w.answers.items) call ≡ Some what → begun ≡ Err e → Block (history_of past) n (event.Call c call) (refused_lines e)
      refused_block n e named eb = subst (λ (m : ℕ). Block (history_of past) n (event.Call c call) (Called number (client c) what ∷ Answered number (client c) (refusal_point (m + 1) e) (Fault e) ∷ [])) at.led.fit.summary.lines
          (block_under (history_of past) n (event.Call c call) (Called number (client c) what) _ accepted (accepts named)
          (under_refused ((history_of past).size + 1) number (client c) (refusal_at_start (length (history_of past).weights) what) e
          (subst (λ (m : ℕ). IsRefusal (refusal_at_start m what) (Err e)) bricks (subst (IsRefusal (refusal_at_start (length w.weights) what)) eb v.refused))))

    -- a client died
    pub died_at : (w : World B C) (bricks : List B) (past : List Line) (c i : ℕ) → IsAt b g w past → i ≡ c → cause_of (history_of past) (event.Die c) ≡ None → map b.state bricks ≡ map (without_client c) (map b.state w.bricks.items) → At g (disk_of b.state bricks) (journals_of b.state bricks) (slice_set w.clients.items i Dead) w.weights (record (summary_of w) { lines = w.lines + 1 }) (past ++ Died (client c) ∷ [])
    died_at w bricks past c i at ei accepted freed =
        let s = history_of past in
        let a = accepted_client g s c None accepted in
        subst (λ (j : ℕ). At g (disk_of b.state bricks) (journals_of b.state bricks) (slice_set w.clients.items j Dead) w.weights (record (summary_of w) { lines = w.lines + 1 }) (past ++ Died (client c) ∷ [])) (sym ei)
        (subst (λ js. At g (disk_of b.state bricks) js (slice_set w.clients.items c Dead) w.weights (record (summary_of w) { lines = w.lines + 1 }) (past ++ Died (client c) ∷ [])) (sym (freed_journals b.state c w.bricks.items bricks freed))
        (at_died g laws stable (disk_of b.state w.bricks.items) (disk_of b.state bricks) (journals_of b.state w.bricks.items) w.clients.items w.weights (summary_of w) past c a.0 a.1 (frees b.state c w.bricks.items bricks freed) at.led))

    pub died_ready : (w : World B C) (bricks : List B) (past : List Line) (c : ℕ) → IsAt b g w past → map b.state bricks ≡ map (without_client c) (map b.state w.bricks.items) → AreReady b.state w.weights w.run (history_of (past ++ Died (client c) ∷ [])).down bricks
    died_ready w bricks past c at freed =
        subst (λ (down : ℕ → Bool). AreReady b.state w.weights w.run down bricks) (sym (down_after past (Died (client c)) (history_of past).down refl))
        (freed_ready b.state w.weights w.run (history_of past).down c w.bricks.items bricks freed at.ready)

    -- a brick went down, or came back
    pub down_at : (w : World B C) (past : List Line) (i : ℕ) (x : BrickNo) (old new : B) → IsAt b g w past → brick_cause (history_of past) x.0 ≡ None → i < length w.bricks.items → old ≡ get_or w.bricks.items i old → b.state new ≡ record (b.state old) { is_up = false } → At g (disk_of b.state (slice_set w.bricks.items i new)) (journals_of b.state (slice_set w.bricks.items i new)) w.clients.items w.weights (record (summary_of w) { lines = w.lines + 1 }) (past ++ WentDown x ∷ [])
    down_at w past i x old new at accepted l was set =
        subst (λ d. At g d (journals_of b.state (slice_set w.bricks.items i new)) w.clients.items w.weights (record (summary_of w) { lines = w.lines + 1 }) (past ++ WentDown x ∷ [])) (sym (up_disk_at b.state w.bricks.items i old new false l was set))
        (subst (λ js. At g (disk_of b.state w.bricks.items) js w.clients.items w.weights (record (summary_of w) { lines = w.lines + 1 }) (past ++ WentDown x ∷ [])) (sym (up_journals_at b.state w.bricks.items i old new false l was set))
        (at_down g laws stable (disk_of b.state w.bricks.items) (journals_of b.state w.bricks.items) w.clients.items w.weights (summary_of w) past x (accepted_brick g (history_of past) x.0 accepted) at.led))

    pub up_at : (w : World B C) (past : List Line) (i : ℕ) (x : BrickNo) (old new : B) → IsAt b g w past → brick_cause (history_of past) x.0 ≡ None → i < length w.bricks.items → old ≡ get_or w.bricks.items i old → b.state new ≡ record (b.state old) { is_up = true } → At g (disk_of b.state (slice_set w.bricks.items i new)) (journals_of b.state (slice_set w.bricks.items i new)) w.clients.items w.weights (record (summary_of w) { lines = w.lines + 1 }) (past ++ CameUp x ∷ [])
    up_at w past i x old new at accepted l was set =
        subst (λ d. At g d (journals_of b.state (slice_set w.bricks.items i new)) w.clients.items w.weights (record (summary_of w) { lines = w.lines + 1 }) (past ++ CameUp x ∷ [])) (sym (up_disk_at b.state w.bricks.items i old new true l was set))
        (subst (λ js. At g (disk_of b.state w.bricks.items) js w.clients.items w.weights (record (summary_of w) { lines = w.lines + 1 }) (past ++ CameUp x ∷ [])) (sym (up_journals_at b.state w.bricks.items i old new true l was set))
        (at_up g laws stable (disk_of b.state w.bricks.items) (journals_of b.state w.bricks.items) w.clients.items w.weights (summary_of w) past x (accepted_brick g (history_of past) x.0 accepted) at.led))

    pub down_ready : (w : World B C) (past : List Line) (i : ℕ) (x : BrickNo) (old new : B) → IsAt b g w past → i ≡ x.0 → i < length w.bricks.items → old ≡ get_or w.bricks.items i old → b.state new ≡ record (b.state old) { is_up = false } → AreReady b.state w.weights w.run (history_of (past ++ WentDown x ∷ [])).down (slice_set w.bricks.items i new)
    down_ready w past i x old new at ei l was set =
        subst (λ (down : ℕ → Bool). AreReady b.state w.weights w.run down (slice_set w.bricks.items i new)) (ap (λ j. put nat_eq (history_of past).down j true) ei ∙ sym (down_after past (WentDown x) (put nat_eq (history_of past).down x.0 true) refl))
        (ready_down b.state w.weights w.run (history_of past).down w.bricks.items i old new false l was set at.ready)

    pub up_ready : (w : World B C) (past : List Line) (i : ℕ) (x : BrickNo) (old new : B) → IsAt b g w past → i ≡ x.0 → i < length w.bricks.items → old ≡ get_or w.bricks.items i old → b.state new ≡ record (b.state old) { is_up = true } → AreReady b.state w.weights w.run (history_of (past ++ CameUp x ∷ [])).down (slice_set w.bricks.items i new)
    up_ready w past i x old new at ei l was set =
        subst (λ (down : ℕ → Bool). AreReady b.state w.weights w.run down (slice_set w.bricks.items i new)) (ap (λ j. put nat_eq (history_of past).down j false) ei ∙ sym (down_after past (CameUp x) (put nat_eq (history_of past).down x.0 false) refl))
        (ready_down b.state w.weights w.run (history_of past).down w.bricks.items i old new true l was set at.ready)

  -- the brick of an event that is accepted is there
  pub brick_there : (w : World B C) (past : List Line) (x : ℕ) → IsAt b g w past → brick_cause (history_of past) x ≡ None → x < length w.bricks.items
  brick_there w past x at accepted =
      let l = accepted_brick g (history_of past) x accepted in
      let count = at.led.fit.kept.counted in
      omega arith

  -- the client of a call that is accepted is idle, and the directory of the call is known
  pub call_idle : (w : World B C) (past : List Line) (c i : ℕ) (call : Call Directory) (old : Place C) → IsAt b g w past → i ≡ c → old ≡ get_or w.clients.items i old → cause_of (history_of past) (event.Call c call) ≡ None → IsIdle g old
  call_idle w past c i call old at ei was accepted =
      let s = history_of past in
      let l = (accepted_client g s c (call_cause (s.pending c) (named_call s.answered call)) accepted).0 in
      let many = at.led.fit.many in
      let here : slice_get w.clients.items c ≡ Some old = place_is w.clients.items c old (omega arith) (subst (λ (j : ℕ). old ≡ get_or w.clients.items j old) ei was) in
      idle_at g (disk_of b.state w.bricks.items) (journals_of b.state w.bricks.items) w.clients.items w.weights (summary_of w) s at.led.fit c call old here accepted

  pub call_named : (w : World B C) (past : List Line) (c : ℕ) (call : Call Directory) → IsAt b g w past → cause_of (history_of past) (event.Call c call) ≡ None → is_some (named_call (answered_in w.answers.items) call) ≡ true
  call_named w past c call at accepted =
      let s = history_of past in
      let a = accepted_client g s c (call_cause (s.pending c) (named_call s.answered call)) accepted in
      ap (λ (f : ℕ → Option Gfid). is_some (named_call f call)) (sym at.led.fit.summary.answers) ∙ (no_call g (s.pending c) (named_call s.answered call) a.2).1

  -- so is the place of a client
  pub place_there : (w : World B C) (past : List Line) (c : ℕ) → IsAt b g w past → cause_of (history_of past) (event.Step c) ≡ None → (c < 64) × (c < length w.clients.items)
  place_there w past c at accepted =
      let a = accepted_client g (history_of past) c (step_cause ((history_of past).pending c)) accepted in
      let l = a.0 in
      let many = at.led.fit.many in
      (l, omega arith)
