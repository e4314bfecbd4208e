-- A call that was accepted: it begins, or it is refused before its first request.
use Rattle.std.proofs.Common.{◌≡◌, ◌<◌, ◌≤◌, ◌+◌, ◌⊎◌, ℕ, Bool, true, false, List, [], ◌∷◌, ◌++◌, refl, sym, ap, ◌∙◌, subst, inl, inr, length, arith, length-append, Result, Ok, Err}
use Rattle.std.specs.Prelude.{Option, Some, None, is_some, nat_eq, nat_lt, not, if◌then◌else◌, MatchBool, MatchOption, OnOk, is_ok, slice_get, slice_set}
use Rattle.std.specs.FinMap.{get-empty}
use Rattle.std.proofs.Math.ListN.{length-set}
use Rattle.std.proofs.lemmas.Bool.{ltb-false}
use Rattle.dht_types.specs.Put.{put}
use Rattle.dht_types.proofs.PutLaws.{put_same, put_other, exact_nat}
use Rattle.dht_types.specs.Calls.{directory_of, name_of, name_refusal, refusal_at_once, refusal_of_home, refusal_at_start, first_refusal}
use Rattle.dht_types.specs.Cost.{cost}
use Rattle.dht_types.specs.Gfid.{home}
use Rattle.dht_types.specs.Name.{is_invalid}
use Rattle.dht_types.specs.Tree.{Tree, Refuse, Say, says, answer_of, depth_of, looked_up, created, made_dir, unlinked, removed}
use Rattle.dht_types.specs.History.{History, PendingCall, Answers, HeedsRefusal, accepted, with_line, history_of}
use Rattle.dht_types.proofs.HistoryLaws.{point_with_line}
use Rattle.dht_types.specs.declared.calls.Answer.TheVariants.{Done, Fault}
use Rattle.dht_types.specs.declared.calls.Call.{Call}
use Rattle.dht_types.specs.declared.calls.Call.TheVariants.{Lookup, Create, Mkdir, Unlink, Rmdir, Heal}
use Rattle.dht_types.specs.declared.errors.Errno.{Errno}
use Rattle.dht_types.specs.declared.errors.Errno.TheVariants.{Enomem, Einval, Enametoolong, Estale}
use Rattle.dht_types.specs.declared.identifiers.CallNo.{CallNo}
use Rattle.dht_types.specs.declared.identifiers.ClientNo.{ClientNo}
use Rattle.dht_types.specs.declared.identifiers.Gfid.{Gfid}
use Rattle.dht_types.specs.declared.lines.Line.{Line}
use Rattle.dht_types.specs.declared.lines.Line.TheVariants.{Called, Answered}
use Rattle.dht_types.specs.declared.stored.DirRecord.{DirRecord}
use Rattle.dht_brick.specs.Contents.{Contents, dir, gfid_cmp}
use Rattle.dht_brick.specs.declared.journal.JournalEntry.{JournalEntry}
use Rattle.dht_section.specs.Begins.{Begins, IsRefusal}
use Rattle.dht_section.specs.Claims.{Claim, no_claim}
use Rattle.dht_section.specs.Disk.{Disk}
use Rattle.dht_section.specs.Scene.{Scene}
use Rattle.dht_section.specs.Stages.{IsCallStable}
use Rattle.dht_section.specs.declared.caller.Caller.{Ghosts as CallerGhosts}
use Rattle.dht_invariant.specs.Laws.{TransitionLaws}
use Rattle.dht_invariant.specs.Transition.{scene, Transition}
use Rattle.dht_world.specs.Bricks.{nothing}
use Rattle.dht_world.specs.Clients.{client, claim_at, claims_of, Rests, Works, ClientFits, Starts}
use Rattle.dht_world.specs.Following.{refusal_point, IsUnderCall}
use Rattle.dht_world.specs.World.{Summary, At}
use Rattle.dht_world.specs.declared.places.Place.{Place}
use Rattle.dht_world.specs.declared.places.Place.TheVariants.{Living}
use Rattle.dht_world.proofs.AnsweredLaws.{answered_more, answered_beyond}
use Rattle.dht_world.proofs.AtLaws.{at_by, own_set, idle_claims, busy_claims, may_begin}
use Rattle.dht_world.proofs.BrickLaws.{get_set_other}
use Rattle.dht_world.proofs.ClientLaws.{claims_set, idle_is}
use Rattle.dht_invariant.proofs.CountedLaws.{counted_called, counted_ended}
use Rattle.dht_world.proofs.LineLaws.{put_id}
use Rattle.dht_world.proofs.WentLaws.{and_first}

-- ---- which refusals there are

same_error : {A : Type 0} (a b : Errno) (r : Result A Errno) → r ≡ Err a → r ≡ Err b → a ≡ b
same_error a b r ea eb = let e : Err a ≡ Err b = sym ea ∙ eb in cc

-- one of a name has no point
name_refusals :
    (o : Option (List ℕ)) (e : Errno) → name_refusal o ≡ Some e → (e ≡ Einval) ⊎ (e ≡ Enametoolong)
name_refusals None e h = absurd (let z : None ≡ Some e = h in cc)
name_refusals (Some n) e h = by (is_invalid n) (nat_lt 255 (length n)) h
  where
    by : (v w : Bool) → (if v then Some Einval else if w then Some Enametoolong else None) ≡ Some e → (e ≡ Einval) ⊎ (e ≡ Enametoolong)
    by true w k = inl (let z : Einval ≡ e = cc in sym z)
    by false true k = inr (let z : Enametoolong ≡ e = cc in sym z)
    by false false k = absurd (let z : None ≡ Some e = k in cc)

-- what a tree says to a call in no directory of it
says_stale :
    (t : Tree) (call : Call Gfid) (g : Gfid) → t.dirs (directory_of call) ≡ false
    → answer_of (says t call g) ≡ Some (Fault Estale)
says_stale t (Lookup d n) g e = ap (λ (b : Bool). answer_of (if b then looked_up (t.names (d, n)) else Refuse Estale)) e
says_stale t (Create d n) g e = ap (λ (b : Bool). answer_of (if b then created d n g (t.names (d, n)) else Refuse Estale)) e
says_stale t (Mkdir d n) g e = ap (λ (b : Bool). answer_of (if b then made_dir (depth_of t d) d n g (t.names (d, n)) else Refuse Estale)) e
says_stale t (Unlink d n) g e = ap (λ (b : Bool). answer_of (if b then unlinked d n (t.names (d, n)) else Refuse Estale)) e
says_stale t (Rmdir d n) g e = ap (λ (b : Bool). answer_of (if b then removed t d n (t.names (d, n)) else Refuse Estale)) e
says_stale t (Heal d) g e = ap (λ (b : Bool). answer_of (if b then Say Done else Refuse Estale)) e

-- a directory whose home is none of the bricks is none of the tree
pub home_beyond :
    (d : Disk) (s : History) (p : ℕ → Claim) (g : Gfid)
    → Rattle.dht_section.specs.Invariant.Invariant d s p
    → ((b : ℕ) → d.count ≤ b → d.brick b ≡ nothing) → d.count ≤ home g → s.tree.dirs g ≡ false
home_beyond d s p g kept beyond l =
    (kept.things.dirs g).homed
    ∙ ap (λ (o : Option DirRecord). is_some o) (ap (λ (c : Contents). dir c.store g) (beyond (home g) l) ∙ get-empty gfid_cmp g)

-- a call that begins was not to be refused
pub begun_is : (o : Option Errno) → IsRefusal o (Ok tt) → o ≡ None
begun_is None h = refl
begun_is (Some e) h = absurd (let z : Ok tt ≡ Err e = h in cc)

first_none : (a b : Option Errno) → first_refusal a b ≡ None → a ≡ None
first_none None b e = refl
first_none (Some x) b e = absurd (let z : Some x ≡ None = e in cc)

pub named_is :
    (count : ℕ) (what : Call Gfid) → refusal_at_start count what ≡ None
    → refusal_at_once what ≡ None
named_is count what e = first_none (refusal_at_once what) (refusal_of_home count (directory_of what)) e

-- no refusal is to be heeded
pub heeds_none :
    (r : PendingCall) (a : Rattle.dht_types.specs.declared.calls.Answer.Answer)
    → refusal_at_once r.call ≡ None → HeedsRefusal r a
heeds_none r a e = subst (λ (o : Option Errno). MatchOption o (Unit {0}) (λ x. a ≡ Fault x)) (sym e) tt

-- ---- what stands under the call line

pub under_begun :
    (line : ℕ) (k : CallNo) (c : ClientNo) (o : Option Errno) → IsRefusal o (Ok tt)
    → IsUnderCall line k c o []
under_begun line k c o h = subst (λ (x : Option Errno). IsUnderCall line k c x []) (sym (begun_is o h)) (inl refl)

pub under_refused :
    (line : ℕ) (k : CallNo) (c : ClientNo) (o : Option Errno) (e : Errno) → IsRefusal o (Err e)
    → IsUnderCall line k c o (Answered k c (refusal_point line e) (Fault e) ∷ [])
under_refused line k c (Some x) e h = ap (λ (y : Errno). Answered k c (refusal_point line y) (Fault y) ∷ []) (same_error e x (Err e) refl h)
under_refused line k c None e h = elim h [
  | inl q ↦ absurd (let z : Err e ≡ Ok tt = q in cc)
  | inr q ↦ inr (ap (λ (y : Errno). Answered k c (refusal_point line y) (Fault y) ∷ []) (same_error e Enomem (Err e) refl q))
]

not_true : (b : Bool) → not b ≡ true → b ≡ false
not_true true e = absurd (let z : false ≡ true = e in cc)
not_true false e = refl

-- ---- the answer may come

-- a call may answer so that was accepted just now
abbrev MayRefuse : History → PendingCall → ℕ → Errno → Type 0
MayRefuse t r line e = Answers t r (refusal_point line e) (Fault e) × HeedsRefusal r (Fault e)

module _ (t : History) (called : Bool) (callers : List ℕ) (line : ℕ) (k : CallNo) (what : Call Gfid) (e : Errno) where
  abbrev r : PendingCall
  r = accepted called callers line k what

  of_name : refusal_at_once what ≡ Some e → MayRefuse t r line e
  of_name h =
      let heeds : HeedsRefusal r (Fault e) = subst (λ (o : Option Errno). MatchOption o (Unit {0}) (λ x. Fault e ≡ Fault x)) (sym h) refl in
      elim (name_refusals (name_of what) e h) [
        | inl q ↦ (subst (λ (x : Errno). Answers t r (refusal_point line x) (Fault x)) (sym q) (record { refused = h ∙ ap (λ (x : Errno). Some x) q; unprinted = refl }), heeds)
        | inr q ↦ (subst (λ (x : Errno). Answers t r (refusal_point line x) (Fault x)) (sym q) (inl (record { refused = h ∙ ap (λ (x : Errno). Some x) q; unprinted = refl })), heeds)
      ]

  of_home : refusal_at_once what ≡ None → line ≤ t.size → (t.past line).dirs (directory_of what) ≡ false → e ≡ Estale → MayRefuse t r line e
  of_home named l gone q = (
    subst (λ (x : Errno). Answers t r (refusal_point line x) (Fault x)) (sym q)
        (record { point = line; printed = refl; after = omega arith; before = l; tells = λ g. says_stale (t.past line) what g gone }),
    heeds_none r (Fault e) named,
  )

  of_memory : refusal_at_once what ≡ None → e ≡ Enomem → MayRefuse t r line e
  of_memory named q = (subst (λ (x : Errno). Answers t r (refusal_point line x) (Fault x)) (sym q) refl, heeds_none r (Fault e) named)

  refused_by : (o : Option Errno) (v : Bool) → refusal_at_once what ≡ o → line ≤ t.size → (v ≡ false → (t.past line).dirs (directory_of what) ≡ false) → IsRefusal (first_refusal o (if v then None else Some Estale)) (Err e) → MayRefuse t r line e
  refused_by (Some x) v eo l gone h = of_name (eo ∙ ap (λ (y : Errno). Some y) (sym (same_error e x (Err e) refl h)))
  refused_by None false eo l gone h = of_home eo l (gone refl) (same_error e Estale (Err e) refl h)
  refused_by None true eo l gone h = elim h [
    | inl q ↦ absurd (let z : Err e ≡ Ok tt = q in cc)
    | inr q ↦ of_memory eo (same_error e Enomem (Err e) refl q)
  ]

  pub may_refuse : (count : ℕ) → line ≤ t.size → (count ≤ home (directory_of what) → (t.past line).dirs (directory_of what) ≡ false) → IsRefusal (refusal_at_start count what) (Err e) → MayRefuse t r line e
  may_refuse count l gone h = refused_by (refusal_at_once what) (nat_lt (home (directory_of what)) count) refl l (λ q. gone (ltb-false (home (directory_of what)) count q)) h

-- ---- the world after a call that was accepted

module _ {C : Type 0} (g : CallerGhosts C) (laws : TransitionLaws) (stable : (x : C) → IsCallStable (g.stage x)) where
  -- what the world keeps of its lines, with a call more, when there are so many lines
  abbrev pub with_call : Summary → ℕ → Summary
  with_call n lines = record n { calls = n.calls + 1; lines = lines; answers = n.answers ++ None ∷ [] }

  module _ (d : Disk) (js : ℕ → List JournalEntry) (places : List (Place C)) (ws : List ℕ) (n : Summary) (past : List Line) (c : ℕ) (k : CallNo) (what : Call Gfid) (old new : Place C) (begun : Result (Unit {0}) Errno) (l : c < 64) (was : slice_get places c ≡ Some old) (v : Starts g old ws n.run k what begun new) (idle : g.is_busy v.before ≡ false) (ek : k.0 ≡ n.calls + 1) (h : At g d js places ws n past) where
    abbrev s : History
    s = history_of past

    abbrev called : Line
    called = Called k (client c) what

    abbrev t : History
    t = with_line s called

    abbrev p : ℕ → Claim
    p = claims_of g places

    abbrev mine : PendingCall
    mine = accepted (s.called c) s.callers (s.size + 1) k what

    here : slice_get places c ≡ Some (Living v.before v.number)
    here = was ∙ ap (λ (y : Place C). Some y) v.was

    fits : ClientFits g d s p c (Some (Living v.before v.number))
    fits = subst (ClientFits g d s p c) here (h.fit.each c)

    rests : Rests g s c v.before
    rests = idle_is _ _ (g.is_busy v.before) idle fits.2

    none : s.pending c ≡ None
    none = rests.none

    -- after its call line the client has called
    has_called : t.called c ≡ true
    has_called = put_same nat_eq exact_nat s.called c true

    free : p c ≡ no_claim
    free = ap (claim_at g) here ∙ idle_claims g laws stable v.before v.number idle

    within : c < length places
    within = let many = h.fit.many in omega arith

    runs : t.pending c ≡ Some mine
    runs = put_same nat_eq exact_nat s.pending c (Some mine)

    ek_s : k.0 ≡ s.calls + 1
    ek_s = let count = h.fit.summary.calls in omega arith

    one : Transition c d s p d t p
    one = laws.line c d s p called h.fit.kept h.fit.early (record {
      tree = refl;
      weights = refl;
      run = refl;
      calls = omega arith;
      counts = λ q. counted_called s c k.0 what q ek_s;
      pending = λ w ne. put_other nat_eq exact_nat s.pending c (Some mine) w ne;
      own = λ o e fresh. inr (let count = h.fit.summary.calls in let z : mine ≡ o = (let y : Some mine ≡ Some o = sym runs ∙ e in cc) in let y : k.0 ≡ o.number.0 = ap (λ (q : PendingCall). q.number.0) z in omega arith);
    })

    -- the call begins
    pub at_called : begun ≡ Ok tt → At g d js (slice_set places c new) ws (with_call n (n.lines + 1)) (past ++ called ∷ [])
    at_called eb =
        let fit = h.fit in
        let summary = fit.summary in
        let size = summary.lines in
        let count = summary.calls in
        let fewer = summary.fewer in
        let less = summary.less in
        let room = summary.places in
        let busy : g.is_busy v.after ≡ true = v.busy ∙ ap (λ (b : Result (Unit {0}) Errno). is_ok b) eb in
        let copy : (g.stage v.after).claims.copy ≡ None = subst (λ (b : Result (Unit {0}) Errno). OnOk b ((g.stage v.after).claims.copy ≡ None)) eb v.copy in
        let knows : (x : Scene) → Begins (g.number v.before) (g.is_new v.before) ws n.run k what x → (g.stage v.after).knows x = subst (λ (b : Result (Unit {0}) Errno). OnOk b ((x : Scene) → Begins (g.number v.before) (g.is_new v.before) ws n.run k what x → (g.stage v.after).knows x)) eb v.knows in
        let bound : (g.stage v.after).variant ≤ cost (length ws) what = subst (λ (b : Result (Unit {0}) Errno). OnOk b ((g.stage v.after).variant ≤ cost (length ws) what)) eb v.variant in
        let refused : IsRefusal (refusal_at_start (length ws) what) (Ok tt) = subst (IsRefusal (refusal_at_start (length ws) what)) eb v.refused in
        let claims = busy_claims g laws stable v.after k busy in
        let two = laws.claim c d t p (g.stage v.after).claims one.kept one.early (may_begin g laws stable d t p c (g.stage v.after).claims one.kept free copy) in
        let both = laws.compose c d d d s t t p p (put nat_eq p c (g.stage v.after).claims) fit.kept one two in
        let set : put nat_eq p c (g.stage v.after).claims ≡ claims_of g (slice_set places c new) = ap (put nat_eq p c) (sym claims ∙ ap (λ (y : Place C). claim_at g (Some y)) (sym v.is)) ∙ claims_set g places c new within in
        at_by g laws stable c d d js js places (slice_set places c new) ws n (with_call n (n.lines + 1)) past (called ∷ []) h ((h.legal.whole, omega arith, none), tt) refl (tt, tt) (λ b i q same. same) (tt, tt) (record {
          transition = subst (λ (q : ℕ → Claim). Transition c d s p d t q) set both;
          passes = record { weights = refl; calls = omega arith; clean = λ q. q; dead = λ w ne. refl; called = λ w ne. put_other nat_eq exact_nat s.called c true w ne; down = λ b l. refl };
          logged = record { steps = fit.logged.steps; slots = fit.logged.slots; dirs = fit.logged.dirs };
          summary = record { run = summary.run; calls = omega arith; lines = omega arith; requests = summary.requests; answers = summary.answers ∙ answered_more n.answers; places = length-append n.answers (None ∷ []) ∙ omega arith; fewer = omega arith; less = omega arith };
          many = length-set places c new;
          same = λ w ne. get_set_other places c new w ne;
          own = own_set g laws stable d t places c new within (subst (λ (y : Place C). ClientFits g d t (claims_of g (slice_set places c new)) c (Some y)) (sym v.is) (
            fits.0,
            v.same ∙ fits.1,
            subst (λ (b : Bool). MatchBool b (Works g d t (claims_of g (slice_set places c new)) c v.after k) (Rests g t c v.after)) (sym busy) (record {
              mine = mine;
              runs = runs;
              number = refl;
              named = named_is (length ws) what (begun_is (refusal_at_start (length ws) what) refused);
              called = has_called;
              begun = omega arith;
              knows = knows (scene d t (claims_of g (slice_set places c new)) (client c) mine) (record { who = sym fits.1; weights = fit.same_weights; run = summary.run; number = refl; call = refl; fresh = refl; steps = refl; first = λ q. rests.fresh (not_true (s.called c) q) });
              in_time = λ q. subst (λ (y : List ℕ). 0 + (g.stage v.after).variant ≤ cost (length y) what) (sym fit.same_weights) (omega arith);
            }),
          ));
        })

    -- the call is refused
    pub at_refused_call : (e : Errno) → begun ≡ Err e → ((b : ℕ) → d.count ≤ b → d.brick b ≡ nothing) → At g d js (slice_set places c new) ws (with_call n (n.lines + 1 + 1)) (past ++ (called ∷ Answered k (client c) (refusal_point (n.lines + 1) e) (Fault e) ∷ []))
    at_refused_call e eb beyond =
        let fit = h.fit in
        let summary = fit.summary in
        let size = summary.lines in
        let count = summary.calls in
        let fewer = summary.fewer in
        let less = summary.less in
        let room = summary.places in
        let bricks : d.count ≡ length ws = fit.kept.counted ∙ ap (λ (y : List ℕ). length y) fit.same_weights in
        let still : g.is_busy v.after ≡ false = v.busy ∙ ap (λ (b : Result (Unit {0}) Errno). is_ok b) eb in
        let refused : IsRefusal (refusal_at_start (length ws) what) (Err e) = subst (IsRefusal (refusal_at_start (length ws) what)) eb v.refused in
        let answer = Answered k (client c) (refusal_point (n.lines + 1) e) (Fault e) in
        let u = with_line t answer in
        let two = laws.line c d t p answer one.kept one.early (record {
          tree = refl;
          weights = refl;
          run = refl;
          calls = omega arith;
          counts = λ q. counted_ended t u c q refl refl refl;
          pending = λ w ne. put_other nat_eq exact_nat t.pending c None w ne;
          own = λ o q fresh. absurd (let z : None ≡ Some o = sym (put_same nat_eq exact_nat t.pending c None) ∙ q in cc);
        }) in
        let both = laws.compose c d d d s t u p p p fit.kept one two in
        let set : p ≡ claims_of g (slice_set places c new) =
        put_id p c no_claim free ∙ (ap (put nat_eq p c) (sym (idle_claims g laws stable v.after k still) ∙ ap (λ (y : Place C). claim_at g (Some y)) (sym v.is)) ∙ claims_set g places c new within) in
        let here_line : n.lines + 1 ≡ s.size + 1 = omega arith in
        let may = may_refuse t (s.called c) s.callers (s.size + 1) k what e (length ws) (omega arith)
        (λ q. ap (λ (y : Tree). y.dirs (directory_of what)) (point_with_line s called) ∙ home_beyond d s p (directory_of what) fit.kept beyond (omega arith))
        refused in
        let answers : Answers t mine (refusal_point (n.lines + 1) e) (Fault e) = subst (λ (y : ℕ). Answers t mine (refusal_point y e) (Fault e)) (sym here_line) may.0 in
        at_by g laws stable c d d js js places (slice_set places c new) ws n (with_call n (n.lines + 1 + 1)) past (called ∷ answer ∷ []) h
        ((h.legal.whole, omega arith, none), ((refl, (mine, record { runs = runs; number = refl }, answers, may.1)), tt)) refl (tt, (tt, tt)) (λ b i q same. same) (tt, (tt, tt)) (record {
          transition = subst (λ (q : ℕ → Claim). Transition c d s p d u q) set both;
          passes = record { weights = refl; calls = omega arith; clean = and_first s.clean _; dead = λ w ne. refl; called = λ w ne. put_other nat_eq exact_nat s.called c true w ne; down = λ b l. refl };
          logged = record { steps = fit.logged.steps; slots = fit.logged.slots; dirs = fit.logged.dirs };
          summary = record {
            run = summary.run;
            calls = omega arith;
            lines = omega arith;
            requests = summary.requests;
            answers = sym (put_id s.answered k.0 None (ap (λ (f : ℕ → Option Gfid). f k.0) summary.answers ∙ answered_beyond n.answers k.0 (omega arith))) ∙ (summary.answers ∙ answered_more n.answers);
            places = length-append n.answers (None ∷ []) ∙ omega arith;
            fewer = omega arith;
            less = omega arith;
          };
          many = length-set places c new;
          same = λ w ne. get_set_other places c new w ne;
          own = own_set g laws stable d u places c new within (subst (λ (y : Place C). ClientFits g d u (claims_of g (slice_set places c new)) c (Some y)) (sym v.is) (
            fits.0,
            v.same ∙ fits.1,
            subst (λ (b : Bool). MatchBool b (Works g d u (claims_of g (slice_set places c new)) c v.after k) (Rests g u c v.after)) (sym still) (record { none = put_same nat_eq exact_nat t.pending c None; fresh = λ q. absurd (let z : true ≡ false = sym has_called ∙ q in cc) }),
          ));
        })
