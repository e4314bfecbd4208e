-- The steps of the section: its beginning, its locks, and how it stops.
use Rattle.std.proofs.Common.{◌≡◌, ◌≢◌, ◌<◌, ◌-◌, ℕ, Bool, true, false, refl, sym, ◌∙◌, ap, subst, arith, inl, inr, List}
use Rattle.std.specs.Prelude.{suc, Some, None, length, nat_lt}
use Rattle.std.proofs.lemmas.Bool.Decides.{nat_tests}
use Rattle.std.proofs.lemmas.List.{length-replicate}
use Rattle.std.proofs.lemmas.List.Elements.{Contains-get_or}
use Rattle.dht_types.specs.Gfid.{Entry}
use Rattle.dht_types.specs.History.{is_carried}
use Rattle.dht_types.specs.Tree.{Tree}
use Rattle.dht_types.specs.declared.errors.Errno.{Errno}
use Rattle.dht_types.specs.declared.identifiers.Gfid.{Gfid}
use Rattle.dht_types.specs.declared.locks.Key.{Key}
use Rattle.dht_brick.specs.Kinds.{reply_kind}
use Rattle.dht_brick.specs.LockRows.{same_key}
use Rattle.dht_brick.proofs.LockLaws.{exact_key}
use Rattle.dht_brick.specs.declared.replies.Reply.{Reply}
use Rattle.dht_section.proofs.ClaimLaws.{claims_more}
use Rattle.dht_section.proofs.EarlyLaws.{nat_cases}
use Rattle.dht_section.proofs.SceneLaws.{IsQuiet, lock_moved, lock_taken, lock_waits, deeds_quiet, fault_earned}
use Rattle.dht_section.proofs.ShownLaws.{full_of, none_below}
use Rattle.dht_section.proofs.UnservedLaws.{unserved_is_rely}
use Rattle.dht_section.proofs.SortLaws.{scope_ordered}
use Rattle.dht_section.proofs.UnlockingSteps.{scope_moved}
use Rattle.dht_section.specs.Claims.{Listed, claims_locks}
use Rattle.dht_section.specs.Claims.{Lock as ALock}
use Rattle.dht_section.specs.Looks.{no_sight, looks_left}
use Rattle.dht_section.specs.MayAnswerLaws.{may_answer_moved}
use Rattle.dht_section.specs.Moves.{Guarantee}
use Rattle.dht_section.specs.Replies.{fault_of}
use Rattle.dht_section.specs.Scene.{Scene, fault_finish}
use Rattle.dht_section.specs.Section.{last_lock, IsFresh, MayBegin, HoldsKey, Shown, ShownOf, AllHeld, LockingKnows, WasGone, unheld_earned, section_stage, opened_ending}
use Rattle.dht_section.specs.SectionLaws.{bricks_are, lock_brick_is, claimed_more, section_stable}
use Rattle.dht_section.specs.Stages.{Stage, IsStable, Served, GoesOn, EndsIn, MayClaimNext, is_wait}
use Rattle.dht_section.specs.Want.{Wanted, Scoped, IsScope, IsWhole, key_at, name_at, mode_of, dir_of, lock_brick, claimed}
use Rattle.dht_section.specs.declared.looks.Linkto.{Linkto}
use Rattle.dht_section.specs.declared.looks.Linkto.TheVariants.{No}
use Rattle.dht_section.specs.declared.looks.Looked.{Looked}
use Rattle.dht_section.specs.declared.looks.What.{What}
use Rattle.dht_section.specs.declared.looks.What.TheVariants.{Absent, Dir, File}
use Rattle.dht_section.specs.declared.machine.Ask.{Ask}
use Rattle.dht_section.specs.declared.section.Opened.TheVariants.{Held as Holding}
use Rattle.dht_section.specs.declared.section.Section.TheVariants.{Locking, Looking, Unlocking}
use Rattle.dht_section.specs.declared.section.Unheld.{Unheld}
use Rattle.dht_section.specs.declared.section.Unheld.TheVariants.{Gone, Stopped}

-- ---- the beginning

pub begins :
    (bricks : ℕ) (want : Wanted) (w : Scoped) (looks : List Looked) (s : Scene)
    → IsScope bricks want w → IsWhole want → length looks ≡ length w.names → MayBegin bricks want s
    → LockingKnows w 0 looks s
begins bricks want w looks s scope whole room h = record {
  order = order;
  fresh = record {
    scope = record {
      bricks = h.count ∙ sym scope.count;
      homes = λ n l. (let k = h.homes (name_at w n) (scope.looks.none_added (name_at w n) (Contains-get_or w.names n _ l)) in
          let e = scope.count in
          omega arith);
    };
    deeds = h.deeds;
  };
  within = order.some;
  room = room;
  holds = λ j l. absurd (omega arith);
}
  where
    order : Rattle.dht_section.specs.Want.IsOrdered w
    order = scope_ordered bricks want w scope whole

-- ---- what a request of one's own leaves

pub fresh_moved :
    (w : Scoped) (s t : Scene) (a : Ask) (r : Reply) → IsQuiet a.request → IsFresh w s
    → Guarantee s a r t → IsFresh w t
fresh_moved w s t a r q h m = record { scope = scope_moved w s t a r h.scope m; deeds = deeds_quiet s t a r q m ∙ h.deeds }

pub gone_moved :
    (g : Gfid) (at : ℕ) (s t : Scene) (a : Ask) (r : Reply) → IsQuiet a.request → WasGone g at s
    → Guarantee s a r t → WasGone g at t
gone_moved g at s t a r q h m =
    let later = m.later in
    let before = h.before in
    let after = h.after in
    let since = m.mine.since in
    record {
      deeds = deeds_quiet s t a r q m ∙ h.deeds;
      after = omega arith;
      before = omega arith;
      gone = ap (λ (p : Tree). p.dirs g) (m.past at h.before) ∙ h.gone;
    }

pub unheld_moved :
    (w : Scoped) (x : Unheld) (s t : Scene) (a : Ask) (r : Reply) → IsQuiet a.request
    → unheld_earned w x s → Guarantee s a r t → unheld_earned w x t
unheld_moved w (Gone g at) s t a r q h m = (h.0, gone_moved g at s t a r q h.1 m)
unheld_moved w (Stopped e) s t a r q h m = may_answer_moved (fault_finish e) s t a r (deeds_quiet s t a r q m) m h

-- no brick was looked at
nothing_shown : (e : Entry) (s : Scene) → Shown e no_sight 0 s
nothing_shown e s = record {
  room = (length-replicate {A = Linkto} 32 No, length-replicate {A = Bool} 32 false);
  bricks = λ b l. absurd (omega arith);
  file = tt;
}

-- of nothing, or of a directory or a file, whichever stands there
pub nothing_of : (full : What) (e : Entry) (s : Scene) → ShownOf full e no_sight 0 s
nothing_of Absent e s = nothing_shown e s
nothing_of (Dir g) e s = (nothing_shown e s).room
nothing_of (File f b links) e s = nothing_shown e s

-- ---- the locks

-- the locks below a place are held after the one at the place was granted, and that one is too
held_more :
    (w : Scoped) (i : ℕ) (looks : List Looked) (r : Reply) (at : ℕ) (s t : Scene)
    → is_carried (reply_kind r) ≡ true → Served (section_stage (Locking w i looks)) r at s t
    → AllHeld w (suc i) t
held_more w i looks r at s t k v j l = elim (nat_cases j i) [
  | inl q ↦ subst (λ (n : ℕ). HoldsKey w (key_at w n) t) (sym q) taken
  | inr ne ↦ by (same_key (key_at w j) (key_at w i)) refl (omega (arith, below j i l ne))
]
  where
    taken : HoldsKey w (key_at w i) t
    taken = lock_taken s t (lock_brick w (key_at w i)) (dir_of (key_at w i)) (key_at w i) (mode_of w (key_at w i)) r (lock_brick_is w (key_at w i) s v.before v.is_at.knows.fresh.scope) k v.moved

    below : (j i : ℕ) → j < suc i → j ≢ i → j < i
    below j i l ne = elim (nat_cases (suc j) (suc i)) [
      | inl q ↦ absurd (ne (omega arith))
      | inr other ↦ less (nat_lt j i) refl
    ]
      where
        less : (b : Bool) → nat_lt j i ≡ b → j < i
        less true e = grind (arith, nat_tests, e)
        less false e = absurd (ne (grind (arith, nat_tests, e, l)))

    by : (b : Bool) → same_key (key_at w j) (key_at w i) ≡ b → j < i → HoldsKey w (key_at w j) t
    by true e m = subst (λ (key : Key). HoldsKey w key t) (sym ((exact_key (key_at w j) (key_at w i)).0 e)) taken
    by false e m = lock_moved s t _ r v.moved (dir_of (key_at w j)) (key_at w j) e ∙ v.is_at.knows.holds j m

listed_more :
    (w : Scoped) (i b : ℕ) (key : Key) → Listed (claimed w i) b key
    → Listed (claimed w (suc i)) b key
listed_more w i b key h = subst (λ (ls : List ALock). Listed ls b key) (sym (claimed_more w i)) (inr h)

pub locked_next :
    (w : Scoped) (i next : ℕ) (looks : List Looked) (r : Reply) (at : ℕ) (s t : Scene)
    → next ≡ suc i → is_carried (reply_kind r) ≡ true → nat_lt 1 (length w.keys - i) ≡ true
    → Served (section_stage (Locking w i looks)) r at s t
    → GoesOn (section_stage (Locking w i looks)) (section_stage (Locking w next looks)) r t
locked_next w i next looks r at s t n k e v =
    let h = v.is_at.knows in
    let more : 1 < length w.keys - i = grind (arith, nat_tests, e) in
    record {
      claims = claims_more (section_stage (Locking w i looks)) r at s t _ v (λ b key q. subst (λ (m : ℕ). Listed (claimed w (suc m)) b key) (sym n) (listed_more w (suc i) b key q));
      knows = record {
        order = h.order;
        fresh = fresh_moved w s t _ r tt h.fresh v.moved;
        within = omega arith;
        room = h.room;
        holds = subst (λ (m : ℕ). AllHeld w m t) (sym n) (held_more w i looks r at s t k v);
      };
      nearer = λ u. (λ q. omega arith, omega arith);
    }

-- the last lock was granted
last_place : (i n : ℕ) → i < n → nat_lt 1 (n - i) ≡ false → suc i ≡ n
last_place i n l e = grind (arith, nat_tests, l, e)

top_place : (i n : ℕ) → suc i ≡ n → suc i ≡ suc (n - 1)
top_place i n e = omega arith

same_listed :
    (w : Scoped) (i n b : ℕ) (key : Key) → i ≡ n → Listed (claimed w i) b key
    → Listed (claimed w n) b key
same_listed w i n b key e h = subst (λ (k : ℕ). Listed (claimed w k) b key) e h

pub first_look :
    (w : Scoped) (i : ℕ) (looks : List Looked) (r : Reply) (at : ℕ) (s t : Scene)
    → is_carried (reply_kind r) ≡ true → nat_lt 1 (length w.keys - i) ≡ false
    → nat_lt 0 (length w.names) ≡ true → Served (section_stage (Locking w i looks)) r at s t
    → GoesOn (section_stage (Locking w i looks))
    (section_stage (Looking w looks 0 (record { 0 = 0 }) no_sight)) r t
first_look w i looks r at s t k e z v =
    let h = v.is_at.knows in
    let within = h.within in
    let last = last_place i (length w.keys) within e in
    let fresh = fresh_moved w s t _ r tt h.fresh v.moved in
    let bricks = bricks_are w t v.after fresh.scope in
    let some = v.after.kept.some_brick in
    let full = full_of t (name_at w 0) v.after in
    let left = ap (looks_left w.bricks) (minus_none (length w.names)) in
    record {
      claims = claims_more (section_stage (Locking w i looks)) r at s t _ v (λ b key q. same_listed w (suc i) (suc (last_lock w)) b key (top_place i (length w.keys) last) q);
      knows = record {
        order = h.order;
        fresh = fresh;
        name = grind (arith, nat_tests, z);
        within = omega arith;
        room = h.room;
        holds = subst (λ (n : ℕ). AllHeld w n t) last (held_more w i looks r at s t k v);
        saw = record { full = full.0; stands = full.1; shows = none_below full.0 };
        read = λ b q. absurd (omega arith);
        whole = refl;
        shown = nothing_of full.0 (name_at w 0) t;
        looked = λ j l. absurd (omega arith);
      };
      nearer = λ u. (λ q. omega arith, omega arith);
    }
  where
    minus_none : (n : ℕ) → n - 0 ≡ n
    minus_none n = omega arith

-- there are no names
pub none_wanted :
    (w : Scoped) (i : ℕ) (looks : List Looked) (r : Reply) (at : ℕ) (s t : Scene)
    → is_carried (reply_kind r) ≡ true → nat_lt 1 (length w.keys - i) ≡ false
    → nat_lt 0 (length w.names) ≡ false → Served (section_stage (Locking w i looks)) r at s t
    → EndsIn (section_stage (Locking w i looks))
    (opened_ending (Holding (record { scope = w; looks = looks }))) t
none_wanted w i looks r at s t k e z v =
    let h = v.is_at.knows in
    let within = h.within in
    let last = last_place i (length w.keys) within e in
    record {
      claims = claims_more (section_stage (Locking w i looks)) r at s t _ v (λ b key q. same_listed w (suc i) (suc (last_lock w)) b key (top_place i (length w.keys) last) q);
      earned = record {
        order = h.order;
        fresh = fresh_moved w s t _ r tt h.fresh v.moved;
        room = h.room;
        holds = subst (λ (n : ℕ). AllHeld w n t) last (held_more w i looks r at s t k v);
        looked = λ j l. absurd (grind (arith, nat_tests, z, l));
      };
    }

-- a stage whose request is to be sent again
pub again :
    (x : Stage) (r : Reply) (at : ℕ) (s t : Scene) → IsStable x → fault_of r ≡ None
    → is_carried (reply_kind r) ≡ false → is_wait r ≡ true → x.claims ≡ claims_locks x.claims.locks
    → Served x r at s t → GoesOn x x r t
again x r at s t stable z k w e v = record {
  claims = subst (λ c. MayClaimNext t x.claims c) (sym e) (claims_more x r at s t x.claims.locks v (λ b key h. h));
  knows = stable s t v.is_at.knows (unserved_is_rely s t x.asks r z k v.moved);
  nearer = λ u. (λ f. absurd (let q : true ≡ false = sym w ∙ f in cc), omega arith);
}

-- the lock is another client's
pub lock_again :
    (w : Scoped) (i : ℕ) (looks : List Looked) (r : Reply) (at : ℕ) (s t : Scene)
    → fault_of r ≡ None → is_carried (reply_kind r) ≡ false
    → Served (section_stage (Locking w i looks)) r at s t
    → GoesOn (section_stage (Locking w i looks)) (section_stage (Locking w i looks)) r t
lock_again w i looks r at s t z k v = again (section_stage (Locking w i looks)) r at s t (section_stable (Locking w i looks)) z k (lock_waits s t (lock_brick w (key_at w i)) (key_at w i) (mode_of w (key_at w i)) r z k v.moved) refl v

-- ---- how it stops

pub lock_stopped :
    (w : Scoped) (i : ℕ) (looks : List Looked) (e : Errno) (r : Reply) (at : ℕ) (s t : Scene)
    → fault_of r ≡ Some e → Served (section_stage (Locking w i looks)) r at s t
    → GoesOn (section_stage (Locking w i looks)) (section_stage (Unlocking w i (Stopped e))) r t
lock_stopped w i looks e r at s t z v =
    let h = v.is_at.knows in
    let within = h.within in
    record {
      claims = claims_more (section_stage (Locking w i looks)) r at s t _ v (λ b key q. q);
      knows = record {
        order = h.order;
        scope = scope_moved w s t _ r h.fresh.scope v.moved;
        within = within;
        earned = fault_earned s t _ r e z v.moved;
      };
      nearer = λ u. (λ q. omega arith, omega arith);
    }
