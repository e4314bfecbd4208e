-- What a step makes of a world.
use Rattle.std.proofs.Common.{◌≡◌, ◌<◌, ◌≤◌, ◌+◌, ◌-◌, ◌^◌, ℕ, true, List, [], ◌∷◌, ◌++◌, sym, ap, ◌∙◌, subst, length, arith}
use Rattle.std.specs.Prelude.{Some, None, slice_get, slice_set}
use Rattle.dht_types.specs.History.{History, gfid_in, history_of, with_lines, start}
use Rattle.dht_types.proofs.HistoryLaws.{lines_append}
use Rattle.dht_types.specs.declared.events.Event.TheVariants as event
use Rattle.dht_types.specs.declared.identifiers.CallNo.{CallNo}
use Rattle.dht_types.specs.declared.lines.Line.{Line}
use Rattle.dht_types.specs.declared.lines.Line.TheVariants.{Answered}
use Rattle.dht_brick.specs.Within.{MayBeSent}
use Rattle.dht_brick.specs.declared.brick.Brick.{Ghosts as BrickGhosts}
use Rattle.dht_brick.specs.declared.journal.JournalEntry.{JournalEntry}
use Rattle.dht_brick.specs.declared.replies.Reply.{Reply}
use Rattle.dht_section.specs.Disk.{Disk}
use Rattle.dht_section.specs.Stages.{MaySend, IsCallStable, CallMoves}
use Rattle.dht_section.specs.declared.caller.Caller.{Ghosts as CallerGhosts}
use Rattle.dht_section.specs.declared.machine.Ask.{Ask}
use Rattle.dht_section.specs.declared.machine.Finish.{Finish}
use Rattle.dht_invariant.specs.Laws.{TransitionLaws}
use Rattle.dht_invariant.specs.Transition.{scene}
use Rattle.dht_world.specs.Bricks.{disk_of, journals_of, ServedAt}
use Rattle.dht_world.specs.Clients.{client, claims_of, IsBusy, Asks, Takes}
use Rattle.dht_world.specs.Following.{Block, cause_of}
use Rattle.dht_world.specs.Lines.{request_lines}
use Rattle.dht_world.specs.Places.{IsAt, summary_of}
use Rattle.dht_world.specs.World.{At, EndsWell}
use Rattle.dht_world.specs.declared.events.World.{World}
use Rattle.dht_world.specs.declared.places.Place.{Place}
use Rattle.dht_world.specs.declared.places.Place.TheVariants.{Living}
use Rattle.dht_world.proofs.AdvanceLaws.{Answers, works_at, may_ask, call_there, gone, told, answer_served, at_on, at_answered, ends_then}
use Rattle.dht_world.proofs.BlockLaws.{block_on, block_answered}
use Rattle.dht_world.proofs.BrickLaws.{may_be_sent}
use Rattle.dht_world.proofs.CauseLaws.{busy_at}

same_place : {C : Type 0} (x y : C) (m n : CallNo) → Living x m ≡ Living y n → (x ≡ y) × (m ≡ n)
same_place x y m n e = (cc, cc)

module _ {B C : Type 0} (b : BrickGhosts B) (g : CallerGhosts C) (laws : TransitionLaws) (stable : (x : C) → IsCallStable (g.stage x)) (permitted : (x : C) → g.is_busy x ≡ true → MaySend (g.stage x)) (goes_on : (x : C) → g.is_busy x ≡ true → 0 < (g.stage x).variant) where
  -- the client of a step that is accepted is busy
  pub step_busy : (w : World B C) (past : List Line) (c : ℕ) (p : Place C) → IsAt b g w past → cause_of (history_of past) (event.Step c) ≡ None → slice_get w.clients.items c ≡ Some p → IsBusy g p
  step_busy w past c p at accepted here = busy_at g (disk_of b.state w.bricks.items) (journals_of b.state w.bricks.items) w.clients.items w.weights (summary_of w) (history_of past) at.led.fit c p here accepted

  module _ (w : World B C) (past : List Line) (c : ℕ) (p : Place C) (k : CallNo) (a : Ask) (at : IsAt b g w past) (accepted : cause_of (history_of past) (event.Step c) ≡ None) (here : slice_get w.clients.items c ≡ Some p) (v : Asks g p k a) where
    abbrev d : Disk
    d = disk_of b.state w.bricks.items

    abbrev js : ℕ → List JournalEntry
    js = journals_of b.state w.bricks.items

    busy : g.is_busy v.client ≡ true
    busy = (let is = step_busy w past c p at accepted here in ap g.is_busy (same_place v.client is.client k is.number (sym v.is ∙ is.is)).0 ∙ is.busy)

    is_here : slice_get w.clients.items c ≡ Some (Living v.client k)
    is_here = here ∙ ap (λ (q : Place C). Some q) v.is

    -- the brick that it asks is there, and may be sent its request
    pub asks_there : a.brick.0 < length w.bricks.items
    asks_there = (may_ask g laws stable permitted goes_on d js w.clients.items w.weights (summary_of w) past c v.client k a at.led is_here busy v.asks).there

    pub asks_sent : MayBeSent (length w.bricks.items) a.request
    asks_sent = may_be_sent (scene d (history_of past) (claims_of g w.clients.items) (client c) (works_at g laws stable permitted goes_on d js w.clients.items w.weights (summary_of w) past c v.client k at.led is_here busy).mine) a.brick.0 a.request at.led.fit.kept.tree asks_there
        (may_ask g laws stable permitted goes_on d js w.clients.items w.weights (summary_of w) past c v.client k a at.led is_here busy v.asks).may

    module _ (r : Reply) (bricks : List B) (l : c < 64) (small : w.lines < 2 ^ 64) (served : ServedAt b.state (history_of past).down (client c) k a w.bricks.items r bricks) where
      abbrev e : Disk
      e = disk_of b.state bricks

      abbrev ks : ℕ → List JournalEntry
      ks = journals_of b.state bricks

      answers : Answers d js (history_of past).down c k a r e ks
      answers = record { new = served.after; served = served.served; is_down = served.is_down; sound = served.sound; memory = served.memory; changes = served.changes; noted = served.noted }

      abbrev xs : List Line
      xs = request_lines k (client c) a r

      -- bricks that are down stay so
      pub step_down : (history_of (past ++ xs)).down ≡ (history_of past).down
      step_down = ap (λ (s : History). s.down) (lines_append start past xs)
          ∙ (gone g laws stable permitted goes_on d e js ks w.clients.items w.weights (summary_of w) past c v.client k a r at.led l is_here busy v.asks small answers).same_down

      pub answered_down : (f : Finish) → (history_of (past ++ (xs ++ Answered k (client c) f.at f.answer ∷ []))).down ≡ (history_of past).down
      answered_down f = ap (λ (s : History). s.down) (lines_append start past (xs ++ Answered k (client c) f.at f.answer ∷ []) ∙ lines_append (history_of past) xs (Answered k (client c) f.at f.answer ∷ []))
          ∙ (gone g laws stable permitted goes_on d e js ks w.clients.items w.weights (summary_of w) past c v.client k a r at.led l is_here busy v.asks small answers).same_down

      pub step_block : (n : ℕ) → Block (history_of past) n (event.Step c) xs
      step_block n = block_on (history_of past) n c _ k a r accepted (told g laws stable permitted goes_on d e js ks w.clients.items w.weights (summary_of w) past c v.client k a r at.led l is_here busy v.asks small answers)

      pub answered_block : (n : ℕ) (f : Finish) → Block (history_of past) n (event.Step c) (xs ++ Answered k (client c) f.at f.answer ∷ [])
      answered_block n f = block_answered (history_of past) n c _ k a r f accepted (told g laws stable permitted goes_on d e js ks w.clients.items w.weights (summary_of w) past c v.client k a r at.led l is_here busy v.asks small answers)

      -- the call has a place for its answer
      pub answer_there : (0 < k.0) × (k.0 ≤ length w.answers.items)
      answer_there = call_there g laws stable permitted goes_on d e js ks w.clients.items w.weights (summary_of w) past c v.client k a r at.led l is_here busy v.asks small answers

      line_is : (count : ℕ) → count ≡ length xs → w.lines + count ≡ (with_lines (history_of past) xs).size
      line_is count many =
          let size = (gone g laws stable permitted goes_on d e js ks w.clients.items w.weights (summary_of w) past c v.client k a r at.led l is_here busy v.asks small answers).size in
          let was = at.led.fit.summary.lines in
          omega arith

      -- the call goes on
      pub step_on : (i count : ℕ) (q new : Place C) → i ≡ c → slice_get w.clients.items c ≡ Some q → count ≡ length xs → Takes g q r (w.lines + count) None new → At g e ks (slice_set w.clients.items i new) w.weights (record (summary_of w) { lines = w.lines + count; requests = w.requests + 1 }) (past ++ xs)
      step_on i count q new ei there many u =
          let both = same_place u.before v.client u.number k (sym u.was ∙ (let z : Some q ≡ Some p = sym there ∙ here in let y : q ≡ p = cc in y) ∙ v.is) in
          let moves : CallMoves g.is_busy g.stage v.client u.after r (w.lines + count) None = subst (λ (x : C). CallMoves g.is_busy g.stage x u.after r (w.lines + count) None) both.0 u.moves in
          let goes = moves _ _ (answer_served g laws stable permitted goes_on d e js ks w.clients.items w.weights (summary_of w) past c v.client k a r at.led l is_here busy v.asks small answers (w.lines + count) (line_is count many)) in
          subst (λ (j : ℕ). At g e ks (slice_set w.clients.items j new) w.weights (record (summary_of w) { lines = w.lines + count; requests = w.requests + 1 }) (past ++ xs)) (sym ei)
          (subst (λ (m : ℕ). At g e ks (slice_set w.clients.items c new) w.weights (record (summary_of w) { lines = w.lines + m; requests = w.requests + 1 }) (past ++ xs)) (sym many)
          (at_on g laws stable permitted goes_on d e js ks w.clients.items w.weights (summary_of w) past c v.client k a r at.led l is_here busy v.asks small answers u.after new (u.is ∙ ap (λ (m : CallNo). Living u.after m) both.1) (u.same ∙ ap g.number both.0) goes.0 goes.1))

      -- the call answers
      pub step_answered : (i count : ℕ) (q new : Place C) (f : Finish) → i ≡ c → slice_get w.clients.items c ≡ Some q → count ≡ length xs → Takes g q r (w.lines + count) (Some f) new → At g e ks (slice_set w.clients.items i new) w.weights (record (summary_of w) { lines = w.lines + count + 1; requests = w.requests + 1; answers = slice_set w.answers.items (k.0 - 1) (gfid_in f.answer) }) (past ++ (xs ++ Answered k (client c) f.at f.answer ∷ []))
      step_answered i count q new f ei there many u =
          let both = same_place u.before v.client u.number k (sym u.was ∙ (let z : Some q ≡ Some p = sym there ∙ here in let y : q ≡ p = cc in y) ∙ v.is) in
          let moves : CallMoves g.is_busy g.stage v.client u.after r (w.lines + count) (Some f) = subst (λ (x : C). CallMoves g.is_busy g.stage x u.after r (w.lines + count) (Some f)) both.0 u.moves in
          let ends = moves _ _ (answer_served g laws stable permitted goes_on d e js ks w.clients.items w.weights (summary_of w) past c v.client k a r at.led l is_here busy v.asks small answers (w.lines + count) (line_is count many)) in
          subst (λ (j : ℕ). At g e ks (slice_set w.clients.items j new) w.weights (record (summary_of w) { lines = w.lines + count + 1; requests = w.requests + 1; answers = slice_set w.answers.items (k.0 - 1) (gfid_in f.answer) }) (past ++ (xs ++ Answered k (client c) f.at f.answer ∷ []))) (sym ei)
          (subst (λ (m : ℕ). At g e ks (slice_set w.clients.items c new) w.weights (record (summary_of w) { lines = w.lines + m + 1; requests = w.requests + 1; answers = slice_set w.answers.items (k.0 - 1) (gfid_in f.answer) }) (past ++ (xs ++ Answered k (client c) f.at f.answer ∷ []))) (sym many)
          (at_answered g laws stable permitted goes_on d e js ks w.clients.items w.weights (summary_of w) past c v.client k a r at.led l is_here busy v.asks small answers u.after new f (u.is ∙ ap (λ (m : CallNo). Living u.after m) both.1) (u.same ∙ ap g.number both.0) ends.0 ends.1))

      -- and what the answer tells of a call that was alone holds then
      pub step_ends : (count : ℕ) (q new : Place C) (f : Finish) → slice_get w.clients.items c ≡ Some q → count ≡ length xs → Takes g q r (w.lines + count) (Some f) new → EndsWell e (past ++ (xs ++ Answered k (client c) f.at f.answer ∷ []))
      step_ends count q new f there many u =
          let both = same_place u.before v.client u.number k (sym u.was ∙ (let z : Some q ≡ Some p = sym there ∙ here in let y : q ≡ p = cc in y) ∙ v.is) in
          let moves : CallMoves g.is_busy g.stage v.client u.after r (w.lines + count) (Some f) = subst (λ (x : C). CallMoves g.is_busy g.stage x u.after r (w.lines + count) (Some f)) both.0 u.moves in
          let ends = moves _ _ (answer_served g laws stable permitted goes_on d e js ks w.clients.items w.weights (summary_of w) past c v.client k a r at.led l is_here busy v.asks small answers (w.lines + count) (line_is count many)) in
          ends_then g laws stable permitted goes_on d e js ks w.clients.items w.weights (summary_of w) past c v.client k a r at.led l is_here busy v.asks small answers f ends.1.earned.1 ends.2
