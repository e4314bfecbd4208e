-- The steps of an rmdir.
use Rattle.std.proofs.Common.{◌≡◌, ◌≢◌, ◌<◌, ◌≤◌, ◌+◌, ◌-◌, ◌*◌, ℕ, Bool, true, false, refl, sym, ◌∙◌, ap, subst, arith, List}
use Rattle.std.specs.Prelude.{Option, Some, None, length, suc, nat_lt, if◌then◌else◌}
use Rattle.dht_types.proofs.PutLaws.{exact_gfid}
use Rattle.dht_types.specs.Gfid.{home}
use Rattle.dht_types.specs.History.{IsAlone}
use Rattle.dht_types.specs.Tree.{Tree, IsDir, IsFile, Refuse, answer_of, removed, says}
use Rattle.dht_types.specs.declared.calls.Answer.{Answer}
use Rattle.dht_types.specs.declared.calls.Answer.TheVariants as answer
use Rattle.dht_types.specs.declared.calls.Call.TheVariants.{Lookup as Looked, Rmdir as Called}
use Rattle.dht_types.specs.declared.errors.Errno.TheVariants.{Enotdir, Estale}
use Rattle.dht_types.specs.declared.identifiers.Gfid.{Gfid}
use Rattle.dht_xattr.specs.declared.range.Range.{Range}
use Rattle.dht_brick.specs.declared.replies.Reply.{Reply}
use Rattle.dht_section.proofs.ClosingSteps.{closing_moves}
use Rattle.dht_section.proofs.LocationLaws.{home_there}
use Rattle.dht_section.proofs.PairLaws.{pair_aimed, pair_begins, pair_gone, pair_left, pair_looked}
use Rattle.dht_section.proofs.PartSteps.{part_ends, part_goes_on, part_served}
use Rattle.dht_section.proofs.ReleaseSteps.{can_begin_moved, release_moves, releases}
use Rattle.dht_section.proofs.SceneLaws.{IsQuiet, alone_before}
use Rattle.dht_section.proofs.SectionParts.{gone_earned}
use Rattle.dht_section.proofs.SectionSteps.{keeps_scope, leaves_unlocks, names_gone, section_moves}
use Rattle.dht_section.proofs.ShownLaws.{full_of, node_there, none_below}
use Rattle.dht_section.proofs.WholeSteps.{asks_quiet, if_alone_moved}
use Rattle.dht_section.specs.Claims.{Claim, no_claim}
use Rattle.dht_section.specs.Closing.{closing_after, closing_stage}
use Rattle.dht_section.specs.Ended.{ended}
use Rattle.dht_section.specs.Location.{entry_at}
use Rattle.dht_section.specs.Looks.{looks_left}
use Rattle.dht_section.specs.Moves.{Guarantee}
use Rattle.dht_section.specs.Pairs.{IsPairRoom, aimed_pair, pair_scope}
use Rattle.dht_section.specs.Release.{memory_of, release_after, release_of, release_stage, released_ending}
use Rattle.dht_section.specs.ReleaseLaws.{begins_anew}
use Rattle.dht_section.specs.Scene.{Scene, MayAnswer}
use Rattle.dht_section.specs.Section.{KeepsScope, LeavesUnlocks, NamesGone, Outlasts, StandsSeen, begun, held_layout, held_looked, last_lock, node_seen, opened_ending, section_after, section_scope, section_stage}
use Rattle.dht_section.specs.SectionLaws.{bricks_are}
use Rattle.dht_section.specs.Stages.{Served, GoesOn, EndsIn, MayClaimNext, Moves, MatchTurn}
use Rattle.dht_section.specs.Want.{Scoped}
use Rattle.dht_section.specs.declared.closing.Closing.{Closing}
use Rattle.dht_section.specs.declared.ended.Ended.{Ended}
use Rattle.dht_section.specs.declared.location.Location.{Location}
use Rattle.dht_section.specs.declared.looks.What.{What}
use Rattle.dht_section.specs.declared.looks.What.TheVariants.{Absent, Dir, File}
use Rattle.dht_section.specs.declared.machine.Ask.{Ask}
use Rattle.dht_section.specs.declared.machine.Finish.{Finish}
use Rattle.dht_section.specs.declared.machine.Turn.{Turn}
use Rattle.dht_section.specs.declared.machine.Turn.TheVariants.{Go, Done}
use Rattle.dht_section.specs.declared.release.Release.{Release}
use Rattle.dht_section.specs.declared.section.Held.{Held}
use Rattle.dht_section.specs.declared.section.Opened.{Opened}
use Rattle.dht_section.specs.declared.section.Opened.TheVariants.{Held as Holding, Gone as IsGone, Stopped as IsStopped}
use Rattle.dht_section.specs.declared.section.Prepared.{Prepared}
use Rattle.dht_section.specs.declared.section.Section.{Section}
use Rattle.dht_resolve.proofs.LookupSteps.{again_ready, lookup_moves}
use Rattle.dht_resolve.proofs.NameSteps.{keeps_location}
use Rattle.dht_resolve.specs.Lookup.{HasRoom, IsAnswered, IsApart, IsRoom, IsStillSo, lookup_again, lookup_stage, resolved}
use Rattle.dht_resolve.specs.LookupName.{KeepsLocation, lookup_location}
use Rattle.dht_resolve.specs.Turns.{lookup_after}
use Rattle.dht_resolve.specs.declared.lookup.Lookup.{Lookup}
use Rattle.dht_resolve.specs.declared.lookup.Resolved.{Resolved}
use Rattle.dht_dirops.proofs.DropSteps.{drop_step}
use Rattle.dht_dirops.proofs.InspectSteps.{inspect_step}
use Rattle.dht_dirops.proofs.LookupPart.{done_never, fault_as, file_as, goes_on, made_never, with_location}
use Rattle.dht_dirops.specs.Rmdir.{IsNamed, IsRmdir, Reopens, Resolves, Secures, is_that, removal_held, removal_scope, resolved_as, rmdir_after, rmdir_closed, rmdir_released, rmdir_resolved, rmdir_secured, rmdir_stage}
use Rattle.dht_dirops.specs.declared.rmdir.Removal.{Removal}
use Rattle.dht_dirops.specs.declared.rmdir.Rmdir.{Rmdir}
use Rattle.dht_dirops.specs.declared.rmdir.Rmdir.TheVariants.{Resolving, Securing, Inspecting, Dropping, Releasing, Ending}

-- an rmdir went on so, or ended
abbrev Went : Rmdir → Reply → Scene → Turn Rmdir Ended → Type 0
Went m r t turn = MatchTurn turn (λ n. GoesOn (rmdir_stage m) (rmdir_stage n) r t) (λ d. EndsIn (rmdir_stage m) (ended d) t)

-- ---- what its own requests leave

call_moved :
    (l : Location) (s t : Scene) (a : Ask) (r : Reply) → IsRmdir l s → Guarantee s a r t
    → IsRmdir l t
call_moved l s t a r h m = m.mine.call ∙ h

room_moved :
    (l : Location) (p : Prepared) (s t : Scene) (a : Ask) (r : Reply) → IsQuiet a.request
    → IsRoom l p s → Guarantee s a r t → IsRoom l p t
room_moved l p s t a r q h m = record { scope = h.scope; can = can_begin_moved p s t a r q h.can m }

secures_moved :
    (x : Removal) (m n : Section) (room : Prepared) (s t : Scene) (a : Ask) (r : Reply)
    → IsQuiet a.request → section_scope n ≡ section_scope m → Secures x m room s → Guarantee s a r t
    → Secures x n room t
secures_moved x m n room s t a r q same h g = record {
  removes = record { call = call_moved x.location s t a r h.removes.call g; apart = h.removes.apart };
  scope = same ∙ h.scope;
  memory = room_moved x.location room s t a r q h.memory g;
  named = if_alone_moved (IsNamed x) (λ u w keeps k. ap (λ (p : Tree). p.names (entry_at x.location)) keeps.tree ∙ k) s t a r q h.named g;
}

reopens_moved :
    (l : Location) (m n : Release) (room : Prepared) (s t : Scene) (a : Ask) (r : Reply)
    → IsQuiet a.request → n.scope ≡ m.scope → Reopens l m room s → Guarantee s a r t
    → Reopens l n room t
reopens_moved l m n room s t a r q same h g = record {
  call = call_moved l s t a r h.call g;
  scope = (h.scope.0, same ∙ h.scope.1);
  memory = room_moved l room s t a r q h.memory g;
  disturbed = λ now. h.disturbed (alone_before s t a r g now);
}

-- ---- claims

-- what holds no lock may claim whatever it asks for next
free_claims :
    (t : Scene) (old new : Claim) → new.copy ≡ None → MayClaimNext t old no_claim
    → MayClaimNext t old new
free_claims t old new copy h = record {
  locks = λ b key m l holds. absurd (h.locks b key m l holds);
  copy = λ f dest. subst (λ (c : Option Rattle.dht_section.specs.Claims.Copy). Rattle.dht_section.specs.Claims.place_in c f dest ≤ Rattle.dht_section.specs.Claims.place_in old.copy f dest) (sym copy) (h.copy f dest);
}

-- ---- the lookup has ended

one_left : (bricks : ℕ) → looks_left bricks 1 ≡ bricks
unfolding looks_left
one_left bricks = omega arith

pair_variant :
    (p : Prepared) (bricks : ℕ) (d g : Gfid) (n : List ℕ) → p.scope ≡ pair_scope bricks d g n
    → (section_stage (begun p)).variant ≡ bricks + 6
pair_variant p bricks d g n e =
    ap (λ (w : Scoped). length w.keys - 0 + looks_left w.bricks (length w.names) + suc (last_lock w)) e
    ∙ (let z = one_left bricks in omega arith)

-- the volume and the directory of a lookup that has memory left
room_count :
    (l : Location) (p : Prepared) (s : Scene) → IsRoom l p s → length s.history.weights ≡ l.bricks
room_count l p s h = h.can.fresh.scope.bricks ∙ ap (λ (w : Scoped). w.bricks) h.scope

room_home : (l : Location) (p : Prepared) (s : Scene) → IsRoom l p s → home l.directory < l.bricks
room_home l p s h = subst (λ (n : ℕ). home l.directory < n) (ap (λ (w : Scoped). w.bricks) h.scope) (home_there l p.scope s h.scope h.can.fresh.scope)

module _ (m : Lookup) (p : Prepared) (d : Resolved) (r : Reply) (at : ℕ) (s t : Scene) (same : d.answered.location ≡ lookup_location m) (v : Served (rmdir_stage (Resolving m p)) r at s t) (ends : EndsIn (lookup_stage m) (resolved d) t) where
  abbrev l : Location
  l = d.answered.location

  called : IsRmdir l t
  called = subst (λ (k : Location). IsRmdir k t) (sym same) (call_moved (lookup_location m) s t _ r v.is_at.knows.1.call v.moved)

  memory : IsPairRoom l.bricks l.directory l.name p
  memory = subst (λ (k : Location). IsPairRoom k.bricks k.directory k.name p) (sym same) v.is_at.knows.1.memory

  told : IsAnswered d.answered t
  told = ends.earned.0

  -- the call answers what it was told, or another thing
  answers_step : (a : Answer) → MayAnswer (record { answer = a; at = d.answered.finish.at }) t → Went (Resolving m p) r t (Done (record { finish = record { answer = a; at = d.answered.finish.at }; layout = d.answered.layout }))
  answers_step a earned = record { claims = ends.claims; earned = earned }

  -- what a lookup may answer
  abbrev Tells : Answer → Type 0
  Tells a = Rattle.dht_types.specs.History.Answers t.history (Rattle.dht_section.specs.AsCall.as_call (Looked l.directory l.name) t).mine d.answered.finish.at a

  tells : (a : Answer) → d.answered.finish.answer ≡ a → Tells a
  tells a e = subst Tells e told.told

  secures_step : (g : Gfid) (room : Prepared) → d.answered.finish.answer ≡ answer.Dir g → d.room ≡ Some room → Went (Resolving m p) r t (Go (Securing (record { location = l; directory = g }) (begun (aimed_pair p g)) room d.answered.layout))
  secures_step g room e k =
      let has : IsRoom l room t = subst (λ (o : Option Prepared). HasRoom l (answer.Dir g) o t) k (subst (λ (a : Answer). HasRoom l a d.room t) e ends.earned.1) in
      let apart : g ≢ l.directory = subst (IsApart l.directory) e told.apart in
      let scope = pair_aimed l.bricks l.directory g l.name p memory in
      let can = pair_begins l.bricks l.directory g l.name p t apart memory (room_count l room t has) (room_home l room t has) told.deeds in
      let variant = pair_variant (aimed_pair p g) l.bricks l.directory g l.name scope in
      let more = goes_on m in
      let bricks : l.bricks ≡ (lookup_location m).bricks = ap (λ (k : Location). k.bricks) same in
      record {
        claims = free_claims t (lookup_stage m).claims (section_stage (begun (aimed_pair p g))).claims refl ends.claims;
        knows = (
          begins_anew (aimed_pair p g) t can,
          record {
            removes = record { call = called; apart = apart };
            scope = scope;
            memory = has;
            named = λ now. subst (λ (a : Answer). IsStillSo l a t) e (told.still now);
          },
        );
        nearer = λ u. (λ w. omega arith, omega arith);
      }

  resolved_by : (a : Answer) (o : Option Prepared) → d.answered.finish.answer ≡ a → d.room ≡ o → Went (Resolving m p) r t (resolved_as a o d.answered p)
  resolved_by (answer.Dir g) (Some room) e k = secures_step g room e k
  resolved_by (answer.Dir g) None e k = absurd (subst (λ (o : Option Prepared). HasRoom l (answer.Dir g) o t) k (subst (λ (a : Answer). HasRoom l a d.room t) e ends.earned.1))
  resolved_by (answer.File f) o e k = answers_step (answer.Fault Enotdir) (file_as l.directory l.name t called told.deeds d.answered.finish.at f (tells (answer.File f) e))
  resolved_by (answer.Made f) o e k = absurd (made_never l.directory l.name t called told.deeds d.answered.finish.at f (tells (answer.Made f) e))
  resolved_by answer.Done o e k = absurd (done_never l.directory l.name t called told.deeds d.answered.finish.at (tells answer.Done e))
  resolved_by (answer.Fault x) o e k = answers_step (answer.Fault x) (fault_as l.directory l.name t called told.deeds d.answered.finish.at x (tells (answer.Fault x) e))

resolved_step :
    (m : Lookup) (p : Prepared) (turn : Turn Lookup Resolved) (r : Reply) (at : ℕ) (s t : Scene)
    → KeepsLocation m turn
    → MatchTurn turn (λ n. GoesOn (lookup_stage m) (lookup_stage n) r t)
    (λ d. EndsIn (lookup_stage m) (resolved d) t)
    → Served (rmdir_stage (Resolving m p)) r at s t
    → Went (Resolving m p) r t (rmdir_resolved turn p)
resolved_step m p (Done d) r at s t same ends v = resolved_by m p d r at s t same v ends d.answered.finish.answer d.room refl refl
resolved_step m p (Go n) r at s t same went v = subst (λ (b : ℕ). GoesOn (rmdir_stage (Resolving m p)) (Rattle.dht_section.specs.Parts.as_part (lookup_stage n) (3 * b + 8) (λ u. Resolves (lookup_location n) p u)) r t) (ap (λ (l : Location). l.bricks) (sym same))
    (part_goes_on (lookup_stage m) (lookup_stage n) (3 * (lookup_location m).bricks + 8) (λ u. Resolves (lookup_location m) p u) (λ u. Resolves (lookup_location n) p u) r t went
    (subst (λ (l : Location). Resolves l p t) (sym same) (record { call = call_moved (lookup_location m) s t _ r v.is_at.knows.1.call v.moved; memory = v.is_at.knows.1.memory })))

-- ---- the section has ended

refuses_rmdir :
    (l : Location) (p : Tree) (g : Gfid) → p.dirs l.directory ≡ false
    → answer_of (says p (Called l.directory l.name) g) ≡ Some (answer.Fault Estale)
refuses_rmdir l p g e = ap (λ (b : Bool). answer_of (if b then removed p l.directory l.name (p.names (entry_at l)) else Refuse Estale)) e

-- a name that was seen as this directory, and no other is
that_is : (g : Gfid) (w : What) → is_that g w ≡ true → w ≡ Dir g
that_is g Absent e = absurd (let z : false ≡ true = e in cc)
that_is g (Dir f) e = ap Dir ((exact_gfid f g).0 e)
that_is g (File f b links) e = absurd (let z : false ≡ true = e in cc)

is_other : (g : Gfid) (w : What) → is_that g w ≡ false → Some (IsDir g) ≡ node_seen w → ⊥
is_other g Absent e k = (let z : Some (IsDir g) ≡ None = k in cc)
is_other g (Dir f) e k =
    let z : Some (IsDir g) ≡ Some (IsDir f) = k in
    let one : f ≡ g = cc in
    let y : false ≡ true = sym e ∙ (exact_gfid f g).1 one in
    cc
is_other g (File f b links) e k = (let z : Some (IsDir g) ≡ Some (IsFile f) = k in cc)

either :
    (m : Rmdir) (r : Reply) (t : Scene) (v : Bool) (a b : Rmdir)
    → (v ≡ true → GoesOn (rmdir_stage m) (rmdir_stage a) r t)
    → (v ≡ false → GoesOn (rmdir_stage m) (rmdir_stage b) r t)
    → GoesOn (rmdir_stage m) (rmdir_stage (if v then a else b)) r t
either m r t true a b f g = f refl
either m r t false a b f g = g refl

module _ (x : Removal) (m : Section) (room : Prepared) (learned : Option (List (Option Range))) (h : Held) (r : Reply) (at : ℕ) (s t : Scene) (same : h.scope ≡ section_scope m) (left : Outlasts m (Holding h)) (ends : EndsIn (section_stage m) (opened_ending (Holding h)) t) (v : Served (rmdir_stage (Securing x m room learned)) r at s t) where
  k : Secures x m room t
  k = secures_moved x m m room s t _ r (asks_quiet m) refl v.is_at.knows.1 v.moved

  scope_is : h.scope ≡ removal_scope x
  scope_is = same ∙ k.scope

  bricks_is : t.disk.count ≡ x.location.bricks
  bricks_is = bricks_are h.scope t v.after ends.earned.fresh.scope ∙ ap (λ (w : Scoped). w.bricks) scope_is

  abbrev what : What
  what = (held_looked h (entry_at x.location)).sight.what

  stands : StandsSeen (entry_at x.location) what t
  stands = (pair_looked x.location.bricks x.location.directory x.directory x.location.name h t scope_is ends.earned).stands

  -- the name is the directory still
  inspects_step : is_that x.directory what ≡ true → GoesOn (rmdir_stage (Securing x m room learned)) (rmdir_stage (Inspecting x h (record { 0 = 0 }))) r t
  inspects_step e =
      let folder : StandsSeen (entry_at x.location) (Dir x.directory) t = subst (λ (w : What). StandsSeen (entry_at x.location) w t) (that_is x.directory what e) stands in
      let some = v.after.kept.some_brick in
      let count = bricks_is in
      part_ends (section_stage m) (rmdir_stage (Inspecting x h (record { 0 = 0 }))) (opened_ending (Holding h)) (x.location.bricks + x.location.bricks + 2) (λ u. Secures x m room u) r t ends refl (omega arith)
      (record {
        held = record {
          removes = k.removes;
          scope = scope_is;
          fresh = ends.earned.fresh;
          holds = ends.earned.holds;
          on = folder.0;
          stands = folder.1;
        };
        within = omega arith;
        shown = λ n. (let full = full_of t (x.directory, n) v.after in record { full = full.0; stands = full.1; shows = none_below full.0 });
      })

  -- another call has changed it
  disturbed : is_that x.directory what ≡ false → IsAlone t.history t.mine → ⊥
  disturbed e now = is_other x.directory what e (sym (k.named now) ∙ node_there t (entry_at x.location) what stands)

  reopens_step : is_that x.directory what ≡ false → GoesOn (rmdir_stage (Securing x m room learned)) (rmdir_stage (Releasing x.location (release_of h) room (held_layout h (entry_at x.location)))) r t
  reopens_step e =
      let begin = releases h t ends.earned in
      record {
        claims = subst (λ (c : Claim). MayClaimNext t (section_stage m).claims c) (sym begin.claims) ends.claims;
        knows = (begin.knows, record { call = k.removes.call; scope = (x.directory, scope_is); memory = k.memory; disturbed = disturbed e });
        nearer = λ u. absurd (disturbed e (record { first = u.first; last = u.last }));
      }

  held_step : GoesOn (rmdir_stage (Securing x m room learned)) (rmdir_stage (removal_held x h room)) r t
  held_step = either (Securing x m room learned) r t (is_that x.directory what) _ _ inspects_step reopens_step

secured_step :
    (x : Removal) (m : Section) (room : Prepared) (learned : Option (List (Option Range)))
    (turn : Turn Section Opened) (r : Reply) (at : ℕ) (s t : Scene)
    → MatchTurn turn (λ n. GoesOn (section_stage m) (section_stage n) r t)
    (λ d. EndsIn (section_stage m) (opened_ending d) t)
    → KeepsScope m turn → NamesGone m turn → LeavesUnlocks m turn
    → Served (rmdir_stage (Securing x m room learned)) r at s t
    → Went (Securing x m room learned) r t (rmdir_secured x room learned turn)
secured_step x m room learned (Go n) r at s t went same gone left v = part_goes_on (section_stage m) (section_stage n) (x.location.bricks + x.location.bricks + 2) (λ u. Secures x m room u) (λ u. Secures x n room u) r t went (secures_moved x m n room s t _ r (asks_quiet m) same v.is_at.knows.1 v.moved)
secured_step x m room learned (Done (Holding h)) r at s t went same gone left v = held_step x m room learned h r at s t same left went v
secured_step x m room learned (Done (IsGone g line)) r at s t went same gone left v =
    let k = v.is_at.knows.1 in
    record {
      claims = went.claims;
      earned = gone_earned x.location.directory (Called x.location.directory x.location.name) g line t (refuses_rmdir x.location) (call_moved x.location s t _ r k.removes.call v.moved) (pair_gone x.location.bricks x.location.directory x.directory g x.location.name (section_scope m) k.scope gone) went.earned;
    }
secured_step x m room learned (Done (IsStopped e)) r at s t went same gone left v = record { claims = went.claims; earned = went.earned }

-- ---- the locks were given back, and the name is looked up once more

abbrev ReleaseWent : Release → Reply → Scene → Turn Release Prepared → Type 0
ReleaseWent m r t turn = MatchTurn turn (λ n. GoesOn (release_stage m) (release_stage n) r t) (λ d. EndsIn (release_stage m) (released_ending d) t)

-- what is left has the release's scope
abbrev SameScope : Release → Turn Release Prepared → Type 0
SameScope m turn = MatchTurn turn (λ n. n.scope ≡ m.scope) (λ p. p.scope ≡ m.scope)

same_scope : (m : Release) → SameScope m (release_after m)
same_scope m = by (nat_lt 0 m.place)
  where
    by : (v : Bool) → SameScope m (if v then Go (record { scope = m.scope; looks = m.looks; place = m.place - 1 }) else Done (memory_of m))
    by true = refl
    by false = refl

again_step :
    (l : Location) (m : Release) (room p : Prepared) (layout : List (Option Range)) (r : Reply)
    (at : ℕ) (s t : Scene)
    → p.scope ≡ m.scope → EndsIn (release_stage m) (released_ending p) t
    → Served (rmdir_stage (Releasing l m room layout)) r at s t
    → GoesOn (rmdir_stage (Releasing l m room layout))
    (rmdir_stage (Resolving (lookup_again room l (Some layout)) p)) r t
again_step l m room p layout r at s t same ends v =
    let k = reopens_moved l m m room s t _ r tt refl v.is_at.knows.1 v.moved in
    let ready = again_ready room l (Some layout) t k.memory in
    let is = with_location room l (Some layout) (Some layout) in
    record {
      claims = free_claims t (release_stage m).claims (lookup_stage (lookup_again room l (Some layout))).claims (ap (λ (c : Claim). c.copy) ready.claims) ends.claims;
      knows = (
        ready.knows,
        subst (λ (x : Location). Resolves x p t) (sym is) (record {
          call = k.call;
          memory = pair_left l.bricks l.directory k.scope.0 l.name p t (same ∙ k.scope.1) ends.earned;
        }),
      );
      nearer = λ u. absurd (k.disturbed (record { first = u.first; last = u.last }));
    }

released_step :
    (l : Location) (m : Release) (room : Prepared) (layout : List (Option Range))
    (turn : Turn Release Prepared) (r : Reply) (at : ℕ) (s t : Scene)
    → SameScope m turn → ReleaseWent m r t turn
    → Served (rmdir_stage (Releasing l m room layout)) r at s t
    → Went (Releasing l m room layout) r t (rmdir_released l room layout turn)
released_step l m room layout (Go n) r at s t same went v = part_goes_on (release_stage m) (release_stage n) 0 (λ u. Reopens l m room u) (λ u. Reopens l n room u) r t went (reopens_moved l m n room s t _ r tt same v.is_at.knows.1 v.moved)
released_step l m room layout (Done p) r at s t same went v = again_step l m room p layout r at s t same went v

-- ---- all of it

closed_turn :
    (c : Closing) (learned : Option (List (Option Range))) (turn : Turn Closing Finish) (r : Reply)
    (t : Scene)
    → MatchTurn turn (λ n. GoesOn (closing_stage c) (closing_stage n) r t)
    (λ f. EndsIn (closing_stage c) (Rattle.dht_section.specs.Stages.answered f) t)
    → Went (Ending c learned) r t (rmdir_closed learned turn)
closed_turn c learned (Go n) r t h = h
closed_turn c learned (Done f) r t h = h

pub rmdir_moves :
    (m : Rmdir) (r : Reply) (at : ℕ) → Moves rmdir_stage ended m r at (rmdir_after m r at)
rmdir_moves (Resolving m p) r at s t v = resolved_step m p (lookup_after m r at) r at s t (keeps_location m r at) (lookup_moves m r at s t (part_served (lookup_stage m) _ _ r at s t v)) v
rmdir_moves (Securing x m room learned) r at s t v =
    let part = part_served (section_stage m) _ _ r at s t v in
    secured_step x m room learned (section_after m r at) r at s t (section_moves m r at s t part) (keeps_scope m r at) (names_gone m r at s v.is_at.knows.0) (leaves_unlocks m r at s v.is_at.knows.0) v
rmdir_moves (Inspecting x h b) r at s t v = inspect_step x h b r at s t v
rmdir_moves (Dropping x h b) r at s t v = drop_step x h b r at s t v
rmdir_moves (Releasing l m room layout) r at s t v = released_step l m room layout (release_after m) r at s t (same_scope m) (release_moves m r at s t (part_served (release_stage m) _ _ r at s t v)) v
rmdir_moves (Ending c learned) r at s t v = closed_turn c learned (closing_after c) r t (closing_moves c r at s t v)
