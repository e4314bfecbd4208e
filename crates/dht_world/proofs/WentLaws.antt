-- What one request and its lines lead to.
use Rattle.std.proofs.Common.{◌≡◌, ◌≢◌, ◌<◌, ◌≤◌, ◌+◌, ◌-◌, ◌^◌, ◌↔◌, ℕ, Bool, true, false, List, [], ◌∷◌, ◌++◌, refl, sym, ap, ◌∙◌, subst, inl, inr, length, arith}
use Rattle.std.specs.Prelude.{Option, Some, None, ◌||◌, ◌&&◌, nat_eq, if◌then◌else◌, map, option_map, slice_get}
use Rattle.dht_types.specs.Put.{put}
use Rattle.dht_types.proofs.PutLaws.{put_same, put_other, put_elim, exact_nat}
use Rattle.dht_types.specs.Calls.{refusal_at_once}
use Rattle.dht_types.specs.Cost.{cost}
use Rattle.dht_types.specs.History.{History, PendingCall, Act, Owed, IsIn, MakesOwn, IsUndisturbed, with_line, with_lines, with_step, stepped, did, slot_of, deeds_after, acts_after, LegalFrom, IsDue, is_change, is_dir_change, is_down, is_failed, owed_if, is_carried}
use Rattle.dht_types.proofs.HistoryLaws.{past_with_line, point_with_line}
use Rattle.dht_types.specs.Gfid.{Entry}
use Rattle.dht_types.specs.declared.identifiers.ClientNo.{ClientNo}
use Rattle.dht_types.specs.declared.identifiers.CallNo.{CallNo}
use Rattle.dht_types.specs.declared.calls.TreeStep.{TreeStep}
use Rattle.dht_types.specs.declared.lines.RequestKind.TheVariants as kind
use Rattle.dht_types.specs.declared.lines.Line.{Line}
use Rattle.dht_types.specs.declared.lines.Line.TheVariants.{Waited, Tree as Changed}
use Rattle.dht_types.specs.declared.lines.ReplyKind.{ReplyKind}
use Rattle.dht_types.specs.declared.lines.ReplyKind.TheVariants as outcome
use Rattle.dht_brick.specs.Bricks.{ServesOrFails, is_unreachable, unless_down}
use Rattle.dht_brick.specs.Contents.{Contents}
use Rattle.dht_brick.specs.Kinds.{kind_of, reply_kind}
use Rattle.dht_brick.specs.Memory.{NeverTakesMemory}
use Rattle.dht_brick.specs.Named.{entry_of, named}
use Rattle.dht_brick.specs.declared.journal.JournalEntry.{JournalEntry}
use Rattle.dht_brick.specs.declared.requests.Request.{Request}
use Rattle.dht_brick.specs.declared.replies.Reply.{Reply}
use Rattle.dht_brick.specs.declared.replies.Reply.TheVariants.{Ok as Carried, Refused as Declined, Wait, Down, Failed, NoMemory}
use Rattle.dht_section.specs.declared.machine.Ask.{Ask}
use Rattle.dht_section.specs.Claims.{Claim}
use Rattle.dht_section.specs.Disk.{Disk, ChangesOneBrick}
use Rattle.dht_section.specs.Moves.{Guarantee, IsUnlock, step_of, tree_by, deeds_by, outcome_of}
use Rattle.dht_section.specs.Permits.{Permitted}
use Rattle.dht_section.specs.Stages.{is_wait}
use Rattle.dht_invariant.specs.Transition.{scene, OnlyMine}
use Rattle.dht_world.specs.Bricks.{Logged, IsNoted, AreNoted, act_of, changed_slots, copied_slots, last_entry, IsSublist}
use Rattle.dht_types.specs.Counted.{CallsCounted}
use Rattle.dht_world.specs.Following.{InTimeFrom}
use Rattle.dht_world.specs.Lines.{tree_lines, step_line, request_lines}
use Rattle.dht_world.proofs.CountLaws.{Passes}
use Rattle.dht_invariant.proofs.CountedLaws.{counted_went}
use Rattle.dht_world.proofs.LineLaws.{acts_more, slots_more, copied_more, sublist_passed, sublist_more, nat_cases, put_twice, put_id, grown_at}
use Rattle.dht_world.proofs.NotedLaws.{last_is}
use Rattle.dht_world.proofs.StepLaws.{lines_are, none_is, of_step, wants_of, is_at_home, waits_is_lock, unlock_is_carried}

-- what is known when a request is sent and answered
pub record Sent (d : Disk) (js : ℕ → List JournalEntry) (s : History) (p : ℕ → Claim) (c : ClientNo) (mine : PendingCall) (k : CallNo) (a : Ask) (r : Reply) (e : Disk) (ks : ℕ → List JournalEntry) : Type 0 where
  pub logged : Logged js s
  pub counted : CallsCounted s
  pub owed : s.owed ≡ None
  pub runs : s.pending c.0 ≡ Some mine
  pub number : mine.number ≡ k
  pub named : refusal_at_once mine.call ≡ None
  pub small : s.calls < 2 ^ 64
  pub client : c.0 < 65536
  pub begun : mine.since ≤ s.size
  pub in_time : IsUndisturbed s mine → mine.steps < cost (length s.weights) mine.call
  pub calm : IsUndisturbed s mine → is_wait r ≡ false
  pub permitted : Permitted (scene d s p c mine) a
  pub new : Contents
  pub served : ServesOrFails (outcome_of (scene d s p c mine) a) (d.brick a.brick.0) r new
  pub is_up : Bool
  pub down : (r ≡ Down) ↔ (is_unreachable is_up a.request ≡ true)
  pub sound : r ≢ Failed
  pub memory : NeverTakesMemory a.request → r ≢ NoMemory
  pub changes : ChangesOneBrick d a.brick.0 new e
  pub journals : ks ≡ put nat_eq js a.brick.0 (unless_down r (js a.brick.0) (js a.brick.0 ++ entry_of c k a.request r ∷ []))

-- what comes of it, after which the lines tell t
pub record Went (d : Disk) (s : History) (p : ℕ → Claim) (c : ClientNo) (mine : PendingCall) (a : Ask) (r : Reply) (e : Disk) (ks : ℕ → List JournalEntry) (lines : List Line) (t : History) : Type 0 where
  pub legal : LegalFrom s lines
  pub in_time : InTimeFrom s lines
  pub mine_then : PendingCall
  pub runs : t.pending c.0 ≡ Some mine_then
  pub steps : mine_then.steps ≤ mine.steps + 1
  pub same_call : mine_then.call ≡ mine.call
  pub begun : mine_then.since ≤ t.size
  pub moved : Guarantee (scene d s p c mine) a r (scene e t p c mine_then)
  pub only : OnlyMine (scene d s p c mine) (scene e t p c mine_then)
  pub counted : CallsCounted t
  pub passes : Passes c.0 s t
  pub owed : t.owed ≡ None
  pub logged : Logged ks t
  pub noted : AreNoted ks s lines
  pub same_run : t.run ≡ s.run
  pub same_answered : t.answered ≡ s.answered
  pub same_down : t.down ≡ s.down
  pub same_dead : t.dead ≡ s.dead
  pub same_called : t.called ≡ s.called
  pub requests : t.requests ≡ s.requests + 1
  pub size : t.size ≡ s.size + length lines

or_false : (b : Bool) → b ≡ (b || false)
or_false true = refl
or_false false = refl

pub and_first : (a b : Bool) → (a && b) ≡ true → a ≡ true
and_first true b e = refl
and_first false b e = let z : false ≡ true = e in cc

-- nothing at the end
nil_end : {A : Type 0} (xs : List A) → xs ++ [] ≡ xs
nil_end [] = refl
nil_end (x ∷ xs) = ap (λ ys. x ∷ ys) (nil_end xs)

same_at :
    {A B : Type 0} (g : List A → List B) (f : ℕ → List A) (h : ℕ → List B) (k : ℕ) (xs : List A)
    → ((i : ℕ) → g (f i) ≡ h i) → g xs ≡ h k → (i : ℕ) → g (put nat_eq f k xs i) ≡ h i
same_at g f h k xs same new i = put_elim (λ x. g x ≡ h i) nat_eq exact_nat f k xs i (λ e. new ∙ ap h (sym e)) (λ ne. same i)

-- two lists of which each got another element at one place
put_elim2 :
    {A B : Type 0} (P : A → B → Type 0) (f : ℕ → A) (g : ℕ → B) (k : ℕ) (x : A) (y : B) (m : ℕ)
    → P x y → ((i : ℕ) → P (f i) (g i)) → P (put nat_eq f k x m) (put nat_eq g k y m)
put_elim2 P f g k x y m new same = elim (nat_cases m k) [
  | inl e ↦ (let u : put nat_eq f k x m ≡ x = ap (put nat_eq f k x) e ∙ put_same nat_eq exact_nat f k x in
      let v : put nat_eq g k y m ≡ y = ap (put nat_eq g k y) e ∙ put_same nat_eq exact_nat g k y in
      subst (λ z. P z (put nat_eq g k y m)) (sym u) (subst (P x) (sym v) new))
  | inr ne ↦ (let u : put nat_eq f k x m ≡ f m = put_other nat_eq exact_nat f k x m ne in
      let v : put nat_eq g k y m ≡ g m = put_other nat_eq exact_nat g k y m ne in
      subst (λ z. P z (put nat_eq g k y m)) (sym u) (subst (P (f m)) (sym v) (same m)))
]

-- what the brick noted, and what its line tells of it
noted :
    (r : Reply) (es : List JournalEntry) (e : JournalEntry) (acts : List Act) (x : Act)
    → map act_of es ≡ acts → act_of e ≡ x → x.reply ≡ reply_kind r
    → map act_of (unless_down r es (es ++ e ∷ [])) ≡ acts_after acts x
noted Down es e acts x h ex er = h ∙ sym (ap (λ (b : Bool). if b then acts else acts ++ x ∷ []) (ap is_down er))
noted (Carried g) es e acts x h ex er = acts_more es e ∙ (λ i. h i ++ ex i ∷ []) ∙ sym (ap (λ (b : Bool). if b then acts else acts ++ x ∷ []) (ap is_down er))
noted (Declined w) es e acts x h ex er = acts_more es e ∙ (λ i. h i ++ ex i ∷ []) ∙ sym (ap (λ (b : Bool). if b then acts else acts ++ x ∷ []) (ap is_down er))
noted (Wait y) es e acts x h ex er = acts_more es e ∙ (λ i. h i ++ ex i ∷ []) ∙ sym (ap (λ (b : Bool). if b then acts else acts ++ x ∷ []) (ap is_down er))
noted Failed es e acts x h ex er = acts_more es e ∙ (λ i. h i ++ ex i ∷ []) ∙ sym (ap (λ (b : Bool). if b then acts else acts ++ x ∷ []) (ap is_down er))
noted NoMemory es e acts x h ex er = acts_more es e ∙ (λ i. h i ++ ex i ∷ []) ∙ sym (ap (λ (b : Bool). if b then acts else acts ++ x ∷ []) (ap is_down er))

-- the slots of an entry that changed nothing, or that did
slots_kept :
    (r : Reply) (es : List JournalEntry) (e : JournalEntry) (slots : List Entry)
    → changed_slots es ≡ slots → is_change e.request e.reply ≡ false
    → changed_slots (unless_down r es (es ++ e ∷ [])) ≡ slots
slots_kept Down es e slots h n = h
slots_kept r es e slots h n = slots_more es e ∙ (ap (λ (x : Bool). changed_slots es ++ (if x then (e.gfid, e.name) ∷ [] else [])) n ∙ (nil_end (changed_slots es) ∙ h))

-- the slots of an entry that is passed over
copied_passed :
    (r : Reply) (es : List JournalEntry) (e : JournalEntry) (slots : List Entry)
    → IsSublist slots (copied_slots es)
    → IsSublist slots (copied_slots (unless_down r es (es ++ e ∷ [])))
copied_passed Down es e slots h = h
copied_passed r es e slots h = subst (IsSublist slots) (sym (copied_more es e)) (sublist_passed slots (copied_slots es) (copied_slots (e ∷ [])) h)

-- a step is of a request that was carried out
step_carried :
    (b : ℕ) (q : Request) (r : Reply) (x : TreeStep) → step_of b q r ≡ Some x
    → (y : List JournalEntry) (z : List JournalEntry) → unless_down r y z ≡ z
step_carried b q (Carried g) x e y z = refl
step_carried b q Down x e y z = absurd (let w : None ≡ Some x = e in cc)
step_carried b q r x e y z = refl

step_reached :
    (b : ℕ) (q : Request) (r : Reply) (x : TreeStep) → step_of b q r ≡ Some x
    → is_down (reply_kind r) ≡ false
step_reached b q (Carried g) x e = refl
step_reached b q Down x e = absurd (let w : None ≡ Some x = e in cc)
step_reached b q r x e = refl

module _ (d : Disk) (js : ℕ → List JournalEntry) (s : History) (p : ℕ → Claim) (c : ClientNo) (mine : PendingCall) (k : CallNo) (a : Ask) (r : Reply) (e : Disk) (ks : ℕ → List JournalEntry) (h : Sent d js s p c mine k a r e ks) where
  is_in : IsIn s c k mine
  is_in = record { runs = h.runs; number = h.number }

  undisturbed : (o : PendingCall) → s.pending c.0 ≡ Some o → mine ≡ o
  undisturbed o q = let z : Some mine ≡ Some o = sym h.runs ∙ q in cc

  in_time_by : (o : PendingCall) → s.pending c.0 ≡ Some o → IsUndisturbed s o → o.steps < cost (length s.weights) o.call
  in_time_by o q = subst (λ (x : PendingCall). IsUndisturbed s x → x.steps < cost (length s.weights) x.call) (undisturbed o q) h.in_time

  numbered : mine.number.0 ≤ s.calls
  numbered = h.counted.numbered c.0 mine h.runs

  unlocked : IsUnlock a.request → (false ≡ false) × (is_carried (reply_kind r) ≡ true)
  unlocked u = (refl, ap is_carried (unlock_is_carried _ c mine.number a.request (d.brick a.brick.0) h.new h.is_up r h.served h.down h.sound h.memory u))

  -- the call, with one more step line
  more_steps : PendingCall
  more_steps = record mine { steps = mine.steps + 1; was_down = mine.was_down || is_down (reply_kind r); has_failed = mine.has_failed || is_failed (reply_kind r) }

  runs_first : stepped (reply_kind r) (s.pending c.0) ≡ Some more_steps
  unfolding more_steps
  runs_first = ap (stepped (reply_kind r)) h.runs

  -- the slots, where no file's name was changed
  slots_same : is_change (kind_of a.request) (reply_kind r) ≡ false → (b : ℕ) → changed_slots (ks b) ≡ s.changes b
  slots_same change b = ap (λ (f : ℕ → List JournalEntry). changed_slots (f b)) h.journals
      ∙ same_at changed_slots js s.changes a.brick.0 _ h.logged.slots (slots_kept r (js a.brick.0) (entry_of c k a.request r) (s.changes a.brick.0) (h.logged.slots a.brick.0) change) b

  -- a copy of a directory that was made or dropped, and is no step of the tree, is passed over
  dirs_passed : (b : ℕ) → IsSublist (s.dir_changes b) (copied_slots (ks b))
  dirs_passed b = subst (λ (f : ℕ → List JournalEntry). IsSublist (s.dir_changes b) (copied_slots (f b))) (sym h.journals)
      (put_elim (λ (es : List JournalEntry). IsSublist (s.dir_changes b) (copied_slots es)) nat_eq exact_nat js a.brick.0 _ b
      (λ q. subst (λ (i : ℕ). IsSublist (s.dir_changes i) (copied_slots (unless_down r (js a.brick.0) (js a.brick.0 ++ entry_of c k a.request r ∷ [])))) (sym q)
      (copied_passed r (js a.brick.0) (entry_of c k a.request r) (s.dir_changes a.brick.0) (h.logged.dirs a.brick.0)))
      (λ ne. h.logged.dirs b))

  -- a request that did no step
  went_plain : step_of a.brick.0 a.request r ≡ None → Went d s p c mine a r e ks (step_line k c a r ∷ []) (with_line s (step_line k c a r))
  unfolding more_steps
  went_plain none =
      let begun = h.begun in
      let small = h.small in
      let l = numbered in
      let t = with_line s (step_line k c a r) in
      let change : is_change (kind_of a.request) (reply_kind r) ≡ false = none_is a.brick.0 a.request r none in
      let pending : t.pending ≡ put nat_eq s.pending c.0 (Some more_steps) = ap (put nat_eq s.pending c.0) runs_first in
      let counted : CallsCounted t = counted_went s t c.0 mine more_steps h.counted h.runs pending refl refl refl refl in
      record {
        legal = ((h.owed, (mine, is_in, h.named)), tt);
        in_time = (in_time_by, tt);
        mine_then = more_steps;
        runs = ap (λ (f : ℕ → Option PendingCall). f c.0) pending ∙ put_same nat_eq exact_nat s.pending c.0 (Some more_steps);
        steps = omega arith;
        same_call = refl;
        begun = omega arith;
        moved = record {
          real = r;
          cut = false;
          seen = refl;
          new = h.new;
          served = h.served;
          disk = h.changes;
          unlocked = unlocked;
          claims = refl;
          who = refl;
          calls = refl;
          mine = record { number = refl; call = refl; since = refl; alone = refl; is_first = refl; steps = omega arith; was_down = refl; has_failed = refl; deeds_are = sym (ap (deeds_by (scene d s p c mine) (s.size + 1)) none) };
          tree = sym (ap (λ (x : Option TreeStep). tree_by x s.tree) none);
          run = refl;
          weights = refl;
          later = omega arith;
          past = past_with_line s (step_line k c a r);
        };
        only = record {
          calls = refl;
          counts = λ q. counted;
          pending = pending;
          point = point_with_line s (step_line k c a r);
          numbered = numbered;
          small = omega arith;
          client = h.client;
        };
        counted = counted;
        passes = record { weights = refl; calls = omega arith; clean = and_first s.clean _; dead = λ w ne. refl; called = λ w ne. refl; down = λ b l. refl };
        owed = ap (λ (b : Bool). owed_if b (record { call = k; client = c; brick = a.brick.0; request = kind_of a.request })) change;
        logged = record {
          steps = λ b. ap (λ (f : ℕ → List JournalEntry). map act_of (f b)) h.journals
              ∙ grown_at (map act_of) js s.acts a.brick.0 _ _ h.logged.steps (noted r (js a.brick.0) (entry_of c k a.request r) (s.acts a.brick.0) (act_of (entry_of c k a.request r)) (h.logged.steps a.brick.0) refl refl) b;
          slots = slots_same change;
          dirs = dirs_passed;
        };
        noted = (tt, tt);
        same_run = refl;
        same_answered = refl;
        same_down = refl;
        same_dead = refl;
        same_called = refl;
        requests = refl;
        size = refl;
      }

  -- the call, after its tree line
  made_steps : TreeStep → PendingCall
  made_steps step = record mine { steps = mine.steps + 1; was_down = mine.was_down || is_down (reply_kind r); has_failed = mine.has_failed || is_failed (reply_kind r); deeds = Some (deeds_after s.tree (s.size + 1 + 1) mine.call mine.deeds step) }

  -- the request that its tree line is of
  owing : Owed
  owing = record { call = k; client = c; brick = a.brick.0; request = kind_of a.request }

  -- the history after a tree line that was owed, or allowed
  after_by : TreeStep → (owed allowed : Option Owed) → History
  after_by step o w =
      let s1 = with_line s (step_line k c a r) in
      let m = with_step s1 step o w in
      record m { size = s1.size + 1; past = put nat_eq s1.past (s1.size + 1) m.tree; owed = None; allowed = None }

  after_is : (step : TreeStep) → with_line (with_line s (step_line k c a r)) (Changed k step) ≡ after_by step (with_line s (step_line k c a r)).owed (with_line s (step_line k c a r)).allowed
  unfolding after_by
  after_is step = refl

  -- the same history, by the slots that were changed by then
  after_step : TreeStep → (changes dir_changes : ℕ → List Entry) → History
  after_step step changes dir_changes = record (after_by step (Some owing) None) { changes = changes; dir_changes = dir_changes }

  one_more : (ℕ → List Entry) → TreeStep → ℕ → List Entry
  one_more slots step = put nat_eq slots a.brick.0 (slots a.brick.0 ++ slot_of step ∷ [])

  after_owed : (step : TreeStep) → after_by step (Some owing) None ≡ after_step step (one_more s.changes step) s.dir_changes
  unfolding owing after_by after_step one_more
  after_owed step = refl

  after_allowed : (step : TreeStep) → after_by step None (Some owing) ≡ after_step step s.changes (one_more s.dir_changes step)
  unfolding owing after_by after_step one_more
  after_allowed step = refl

  -- the call, as it stands then
  runs_made : (step : TreeStep) (changes dir_changes : ℕ → List Entry) → (after_step step changes dir_changes).pending ≡ put nat_eq s.pending c.0 (Some (made_steps step))
  unfolding more_steps made_steps owing after_by after_step
  runs_made step changes dir_changes =
      let s1 = with_line s (step_line k c a r) in
      let runs1 : s1.pending c.0 ≡ Some more_steps = put_same nat_eq exact_nat s.pending c.0 (stepped (reply_kind r) (s.pending c.0)) ∙ runs_first in
      put_twice s.pending c.0 (stepped (reply_kind r) (s.pending c.0)) (did s1.tree (s1.size + 1) step (s1.pending c.0))
      ∙ ap (put nat_eq s.pending c.0) (ap (did s1.tree (s1.size + 1) step) runs1)

  -- a request that did a step
  legal_made : (step : TreeStep) → step_of a.brick.0 a.request r ≡ Some step → IsDue (with_line s (step_line k c a r)).owed (with_line s (step_line k c a r)).allowed owing → LegalFrom s (step_line k c a r ∷ Changed k step ∷ [])
  unfolding more_steps owing
  legal_made step some due =
      let wants = wants_of (scene d s p c mine) a r step h.permitted some in
      let at_home = is_at_home (scene d s p c mine) a r step h.permitted some in
      let s1 = with_line s (step_line k c a r) in
      let runs1 : s1.pending c.0 ≡ Some more_steps = put_same nat_eq exact_nat s.pending c.0 (stepped (reply_kind r) (s.pending c.0)) ∙ runs_first in
      let in1 : IsIn s1 c k more_steps = record { runs = runs1; number = h.number } in
      let own : MakesOwn s.run c k step = subst (λ (x : CallNo). MakesOwn s.run c x step) h.number wants.own in
      ((h.owed, (mine, is_in, h.named)), ((owing, due, refl, (of_step a.brick.0 a.request r step some).kind, at_home, (more_steps, in1, wants.next, wants.fits, own)), tt))

  -- the slots that the journals tell then: of one entry more, that of the step
  grown_slots : (slots_in : List JournalEntry → List Entry) (was : ℕ → List Entry) (step : TreeStep) → step_of a.brick.0 a.request r ≡ Some step
      → slots_in (js a.brick.0 ++ entry_of c k a.request r ∷ []) ≡ was a.brick.0 ++ slot_of step ∷ []
      → ((b : ℕ) → slots_in (js b) ≡ was b) → (b : ℕ) → slots_in (ks b) ≡ one_more was step b
  unfolding one_more
  grown_slots slots_in was step some grown same b =
      ap (λ (f : ℕ → List JournalEntry). slots_in (f b)) h.journals
      ∙ grown_at slots_in js was a.brick.0 _ _ same
      (ap slots_in (step_carried a.brick.0 a.request r step some (js a.brick.0) (js a.brick.0 ++ entry_of c k a.request r ∷ [])) ∙ grown) b

  slots_made : (step : TreeStep) → step_of a.brick.0 a.request r ≡ Some step → is_change (kind_of a.request) (reply_kind r) ≡ true → (b : ℕ) → changed_slots (ks b) ≡ one_more s.changes step b
  slots_made step some change =
      let entry = entry_of c k a.request r in
      let one : changed_slots (entry ∷ []) ≡ slot_of step ∷ [] =
      ap (λ (x : Bool). if x then named a.request ∷ [] else []) change ∙ ap (λ (x : Entry). x ∷ []) (sym (of_step a.brick.0 a.request r step some).slot) in
      grown_slots changed_slots s.changes step some (slots_more (js a.brick.0) entry ∙ (λ i. h.logged.slots a.brick.0 i ++ one i)) h.logged.slots

  dirs_made : (step : TreeStep) → step_of a.brick.0 a.request r ≡ Some step → is_dir_change (kind_of a.request) (reply_kind r) ≡ true → (b : ℕ) → IsSublist (one_more s.dir_changes step b) (copied_slots (ks b))
  unfolding one_more
  dirs_made step some change b =
      let entry = entry_of c k a.request r in
      let one : copied_slots (entry ∷ []) ≡ slot_of step ∷ [] =
      ap (λ (x : Bool). if x then named a.request ∷ [] else []) change ∙ ap (λ (x : Entry). x ∷ []) (sym (of_step a.brick.0 a.request r step some).slot) in
      let more : copied_slots (js a.brick.0 ++ entry ∷ []) ≡ copied_slots (js a.brick.0) ++ slot_of step ∷ [] =
      copied_more (js a.brick.0) entry ∙ ap (λ xs. copied_slots (js a.brick.0) ++ xs) one in
      let told : copied_slots (ks b) ≡ one_more (λ i. copied_slots (js i)) step b = grown_slots copied_slots (λ i. copied_slots (js i)) step some more (λ i. refl) b in
      subst (IsSublist (one_more s.dir_changes step b)) (sym told)
      (put_elim2 (λ xs ys. IsSublist xs ys) s.dir_changes (λ i. copied_slots (js i)) a.brick.0 _ _ b (sublist_more (s.dir_changes a.brick.0) (copied_slots (js a.brick.0)) (slot_of step) (h.logged.dirs a.brick.0)) h.logged.dirs)

  -- the brick's last entry is that of the step
  noted_made : (step : TreeStep) → step_of a.brick.0 a.request r ≡ Some step → ((w : Owed) → IsDue (with_line s (step_line k c a r)).owed (with_line s (step_line k c a r)).allowed w → owing ≡ w) → IsNoted ks (with_line s (step_line k c a r)) (Changed k step)
  unfolding owing
  noted_made step some only w due =
      let s1 = with_line s (step_line k c a r) in
      let entry = entry_of c k a.request r in
      let b = a.brick.0 in
      let journal : ks b ≡ js b ++ entry ∷ [] =
      ap (λ (f : ℕ → List JournalEntry). f b) h.journals ∙ (put_same nat_eq exact_nat js b _ ∙ step_carried b a.request r step some (js b) (js b ++ entry ∷ [])) in
      let acts : s1.acts b ≡ acts_after (s.acts b) (act_of entry) = put_same nat_eq exact_nat s.acts b (acts_after (s.acts b) (act_of entry)) in
      let here : last_entry ks s1 b ≡ Some entry =
      (λ i. slice_get (journal i) (length (acts i) - 1)) ∙ last_is act_of (js b) (s.acts b) entry (act_of entry) (h.logged.steps b) (step_reached b a.request r step some) in
      let slot : option_map (λ e. (e.gfid, e.name)) (last_entry ks s1 b) ≡ Some (slot_of step) =
      ap (option_map (λ e. (e.gfid, e.name))) here ∙ ap Some (sym (of_step b a.request r step some).slot) in
      subst (λ (o : Owed). option_map (λ e. (e.gfid, e.name)) (last_entry ks s1 o.brick) ≡ Some (slot_of step)) (only w due) slot

  went_after : (step : TreeStep) (changes dir_changes : ℕ → List Entry) → step_of a.brick.0 a.request r ≡ Some step → LegalFrom s (step_line k c a r ∷ Changed k step ∷ [])
      → ((b : ℕ) → changed_slots (ks b) ≡ changes b) → ((b : ℕ) → IsSublist (dir_changes b) (copied_slots (ks b)))
      → IsNoted ks (with_line s (step_line k c a r)) (Changed k step)
      → Went d s p c mine a r e ks (step_line k c a r ∷ Changed k step ∷ []) (after_step step changes dir_changes)
  unfolding more_steps made_steps owing after_by after_step
  went_after step changes dir_changes some legal slots dirs last =
      let begun = h.begun in
      let small = h.small in
      let l = numbered in
      let s1 = with_line s (step_line k c a r) in
      let t = after_step step changes dir_changes in
      let pending : t.pending ≡ put nat_eq s.pending c.0 (Some (made_steps step)) = runs_made step changes dir_changes in
      let counted : CallsCounted t = counted_went s t c.0 mine (made_steps step) h.counted h.runs pending refl refl refl refl in
      record {
        legal = legal;
        in_time = (in_time_by, (tt, tt));
        mine_then = made_steps step;
        runs = ap (λ (f : ℕ → Option PendingCall). f c.0) pending ∙ put_same nat_eq exact_nat s.pending c.0 (Some (made_steps step));
        steps = omega arith;
        same_call = refl;
        begun = omega arith;
        moved = record {
          real = r;
          cut = false;
          seen = refl;
          new = h.new;
          served = h.served;
          disk = h.changes;
          unlocked = unlocked;
          claims = refl;
          who = refl;
          calls = refl;
          mine = record { number = refl; call = refl; since = refl; alone = refl; is_first = refl; steps = omega arith; was_down = refl; has_failed = refl; deeds_are = sym (ap (deeds_by (scene d s p c mine) (s.size + 1 + 1)) some) };
          tree = sym (ap (λ (x : Option TreeStep). tree_by x s.tree) some);
          run = refl;
          weights = refl;
          later = omega arith;
          past = λ j m. put_other nat_eq exact_nat s1.past (s1.size + 1) t.tree j (λ q. omega arith) ∙ past_with_line s (step_line k c a r) j m;
        };
        only = record {
          calls = refl;
          counts = λ q. counted;
          pending = pending;
          point = put_same nat_eq exact_nat s1.past (s1.size + 1) t.tree;
          numbered = numbered;
          small = omega arith;
          client = h.client;
        };
        counted = counted;
        passes = record { weights = refl; calls = omega arith; clean = and_first s.clean _; dead = λ w ne. refl; called = λ w ne. refl; down = λ b l. refl };
        owed = refl;
        logged = record {
          steps = λ b. ap (λ (f : ℕ → List JournalEntry). map act_of (f b)) h.journals
              ∙ grown_at (map act_of) js s.acts a.brick.0 _ _ h.logged.steps (noted r (js a.brick.0) (entry_of c k a.request r) (s.acts a.brick.0) (act_of (entry_of c k a.request r)) (h.logged.steps a.brick.0) refl refl) b;
          slots = slots;
          dirs = dirs;
        };
        noted = (tt, (last, tt));
        same_run = refl;
        same_answered = refl;
        same_down = refl;
        same_dead = refl;
        same_called = refl;
        requests = refl;
        size = omega arith;
      }

  -- what is owed after the request's line, or allowed
  owed_is : (v : Bool) → is_change (kind_of a.request) (reply_kind r) ≡ v → (with_line s (step_line k c a r)).owed ≡ owed_if v owing
  unfolding owing
  owed_is v change = ap (λ (b : Bool). owed_if b owing) change

  allowed_is : (v : Bool) → is_dir_change (kind_of a.request) (reply_kind r) ≡ v → (with_line s (step_line k c a r)).allowed ≡ owed_if v owing
  unfolding owing
  allowed_is v change = ap (λ (b : Bool). owed_if b owing) change

  went_made : (step : TreeStep) → step_of a.brick.0 a.request r ≡ Some step → Went d s p c mine a r e ks (step_line k c a r ∷ Changed k step ∷ []) (with_lines s (step_line k c a r ∷ Changed k step ∷ []))
  went_made step some = elim (of_step a.brick.0 a.request r step some).due [
    | inl q ↦ (let owe : (with_line s (step_line k c a r)).owed ≡ Some owing = owed_is true q.0 in
        let allow : (with_line s (step_line k c a r)).allowed ≡ None = allowed_is false q.1 in
        subst (λ (t : History). Went d s p c mine a r e ks (step_line k c a r ∷ Changed k step ∷ []) t)
        (sym (after_is step ∙ (λ i. after_by step (owe i) (allow i)) ∙ after_owed step))
        (went_after step (one_more s.changes step) s.dir_changes some
        (legal_made step some (subst (λ (o : Option Owed). IsDue o (with_line s (step_line k c a r)).allowed owing) (sym owe) refl))
        (slots_made step some q.0) dirs_passed
        (noted_made step some (λ w due. subst (λ (o : Option Owed). IsDue o (with_line s (step_line k c a r)).allowed w) owe due))))
    | inr q ↦ (let owe : (with_line s (step_line k c a r)).owed ≡ None = owed_is false q.0 in
        let allow : (with_line s (step_line k c a r)).allowed ≡ Some owing = allowed_is true q.1 in
        subst (λ (t : History). Went d s p c mine a r e ks (step_line k c a r ∷ Changed k step ∷ []) t)
        (sym (after_is step ∙ (λ i. after_by step (owe i) (allow i)) ∙ after_allowed step))
        (went_after step s.changes (one_more s.dir_changes step) some
        (legal_made step some (subst (λ (o : Option Owed). IsDue o (with_line s (step_line k c a r)).allowed owing) (sym owe) allow))
        (slots_same q.0) (dirs_made step some q.1)
        (noted_made step some (λ w due. (let allowed = subst (λ (o : Option Owed). IsDue o (with_line s (step_line k c a r)).allowed w) owe due in
        let z : Some owing ≡ Some w = sym allow ∙ allowed in cc)))))
  ]

  -- a request that waits
  went_waited : (holder : ClientNo) → r ≡ Wait holder → Went d s p c mine a r e ks (Waited k c a.brick holder ∷ []) (with_line s (Waited k c a.brick holder))
  went_waited holder er =
      let begun = h.begun in
      let small = h.small in
      let l = numbered in
      let t = with_line s (Waited k c a.brick holder) in
      let served : ServesOrFails (outcome_of (scene d s p c mine) a) (d.brick a.brick.0) (Wait holder) h.new = subst (λ (x : Reply). ServesOrFails (outcome_of (scene d s p c mine) a) (d.brick a.brick.0) x h.new) er h.served in
      let lock = waits_is_lock (scene d s p c mine) a _ c mine.number (d.brick a.brick.0) holder h.permitted served.0 in
      let kinds : kind_of a.request ≡ kind.Lock = ap kind_of lock.is in
      let replies : reply_kind r ≡ outcome.Wait = ap reply_kind er in
      let none : step_of a.brick.0 a.request r ≡ None = ap (step_of a.brick.0 a.request) er in
      let change : is_change (kind_of a.request) (reply_kind r) ≡ false = none_is a.brick.0 a.request r none in
      let pending : t.pending ≡ put nat_eq s.pending c.0 (Some mine) = put_id s.pending c.0 (Some mine) h.runs in
      let counted : CallsCounted t = counted_went s t c.0 mine mine h.counted h.runs pending refl refl refl refl in
      let told : act_of (entry_of c k a.request r) ≡ record { client = c; call = k; request = kind.Lock; reply = outcome.Wait } = (λ i. record { client = c; call = k; request = kinds i; reply = replies i }) in
      record {
        legal = ((h.owed, (mine, is_in, h.named)), tt);
        in_time = ((λ o q u. (let z : true ≡ false = sym (ap is_wait er) ∙ h.calm (subst (IsUndisturbed s) (sym (undisturbed o q)) u) in cc)), tt);
        mine_then = mine;
        runs = h.runs;
        steps = omega arith;
        same_call = refl;
        begun = omega arith;
        moved = record {
          real = r;
          cut = false;
          seen = refl;
          new = h.new;
          served = h.served;
          disk = h.changes;
          unlocked = unlocked;
          claims = refl;
          who = refl;
          calls = refl;
          mine = record {
            number = refl;
            call = refl;
            since = refl;
            alone = refl;
            is_first = refl;
            steps = omega arith;
            was_down = or_false mine.was_down ∙ ap (λ (x : ReplyKind). mine.was_down || is_down x) (sym replies);
            has_failed = or_false mine.has_failed ∙ ap (λ (x : ReplyKind). mine.has_failed || is_failed x) (sym replies);
            deeds_are = sym (ap (deeds_by (scene d s p c mine) (s.size + 1)) none);
          };
          tree = sym (ap (λ (x : Option TreeStep). tree_by x s.tree) none);
          run = refl;
          weights = refl;
          later = omega arith;
          past = past_with_line s (Waited k c a.brick holder);
        };
        only = record {
          calls = refl;
          counts = λ q. counted;
          pending = pending;
          point = point_with_line s (Waited k c a.brick holder);
          numbered = numbered;
          small = omega arith;
          client = h.client;
        };
        counted = counted;
        passes = record { weights = refl; calls = omega arith; clean = λ q. q; dead = λ w ne. refl; called = λ w ne. refl; down = λ b l. refl };
        owed = refl;
        logged = record {
          steps = λ b. ap (λ (f : ℕ → List JournalEntry). map act_of (f b)) h.journals
              ∙ grown_at (map act_of) js s.acts a.brick.0 _ _ h.logged.steps (noted r (js a.brick.0) (entry_of c k a.request r) (s.acts a.brick.0) _ (h.logged.steps a.brick.0) told (sym replies)) b;
          slots = slots_same change;
          dirs = dirs_passed;
        };
        noted = (tt, tt);
        same_run = refl;
        same_answered = refl;
        same_down = refl;
        same_dead = refl;
        same_called = refl;
        requests = refl;
        size = refl;
      }

  -- a request that was answered, however it was
  went_by : (o : Option TreeStep) → step_of a.brick.0 a.request r ≡ o → is_wait r ≡ false → Went d s p c mine a r e ks (request_lines k c a r) (with_lines s (request_lines k c a r))
  went_by None none n = subst (λ (xs : List Line). Went d s p c mine a r e ks xs (with_lines s xs)) (sym (lines_are k c a r n ∙ ap (λ (o : Option TreeStep). step_line k c a r ∷ tree_lines k o) none)) (went_plain none)
  went_by (Some step) some n = subst (λ (xs : List Line). Went d s p c mine a r e ks xs (with_lines s xs)) (sym (lines_are k c a r n ∙ ap (λ (o : Option TreeStep). step_line k c a r ∷ tree_lines k o) some)) (went_made step some)

  went_reply : (x : Reply) → r ≡ x → Went d s p c mine a r e ks (request_lines k c a r) (with_lines s (request_lines k c a r))
  went_reply (Wait holder) er = subst (λ (xs : List Line). Went d s p c mine a r e ks xs (with_lines s xs)) (sym (ap (request_lines k c a) er)) (went_waited holder er)
  went_reply x er = went_by (step_of a.brick.0 a.request r) refl (ap is_wait er)

  pub went : Went d s p c mine a r e ks (request_lines k c a r) (with_lines s (request_lines k c a r))
  went = went_reply r refl
