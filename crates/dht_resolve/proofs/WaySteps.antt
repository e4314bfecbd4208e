-- The steps of a first lookup: what it knows on its way, and that it finds its file soon.
use Rattle.std.proofs.Common.{◌≡◌, ◌<◌, ◌≤◌, ◌+◌, ◌-◌, ℕ, Bool, true, false, List, [], ◌∷◌, ◌++◌, refl, sym, ◌∙◌, ap, arith}
use Rattle.std.specs.Prelude.{Option, Some, None, length, nat_lt, nat_le, nat_eq, if◌then◌else◌, suc}
use Rattle.std.proofs.lemmas.Bool.Decides.{nat_tests}
use Rattle.std.specs.FinMap.{get}
use Rattle.dht_types.proofs.PutLaws.{exact_nat, put_other}
use Rattle.dht_types.specs.Gfid.{Entry}
use Rattle.dht_types.specs.History.{is_carried}
use Rattle.dht_types.specs.Volume.{replay_names}
use Rattle.dht_types.specs.declared.calls.Answer.TheVariants as answer
use Rattle.dht_types.specs.declared.errors.Errno.{Errno}
use Rattle.dht_types.specs.declared.errors.Errno.TheVariants.{Estale}
use Rattle.dht_types.specs.declared.identifiers.BrickNo.{BrickNo}
use Rattle.dht_types.specs.declared.identifiers.Gfid.{Gfid}
use Rattle.dht_types.specs.declared.stored.DirRecord.{DirRecord}
use Rattle.dht_types.specs.declared.stored.Slot.{Slot}
use Rattle.dht_hash.specs.DaviesMeyer.{dm}
use Rattle.dht_xattr.specs.Layout.{holder as holder_by}
use Rattle.dht_xattr.specs.declared.range.Range.{Range}
use Rattle.dht_brick.specs.Contents.{Contents, Dirs, dir, slot}
use Rattle.dht_brick.specs.Kinds.{reply_kind}
use Rattle.dht_brick.specs.Looks.{info_of}
use Rattle.dht_brick.specs.NameRows.{on_slot, slot_change, slot_row}
use Rattle.dht_brick.specs.Outcome.{in_dir, left_by, within}
use Rattle.dht_brick.specs.Rows.{with_store}
use Rattle.dht_brick.specs.declared.replies.Given.TheVariants as given
use Rattle.dht_brick.specs.declared.replies.Reply.{Reply}
use Rattle.dht_brick.specs.declared.requests.NameRequest.TheVariants.{MakeLinkto}
use Rattle.dht_section.proofs.LayoutLaws.{below_length}
use Rattle.dht_section.proofs.LocationLaws.{held_holder_is}
use Rattle.dht_section.proofs.ReadLaws.{longer}
use Rattle.dht_section.proofs.SceneLaws.{IsQuiet, alone_before, brick_keeps}
use Rattle.dht_section.proofs.ShownLaws.{look_answered, look_main}
use Rattle.dht_section.proofs.WholeSteps.{asks_quiet, quiet_same}
use Rattle.dht_section.specs.Disk.{file_in as name_in, holder_of, layout_of, range_at, range_of, ranges_below, slot_at}
use Rattle.dht_section.specs.FirstLookup.{IsFirstLookup}
use Rattle.dht_section.specs.HealedLaws.{layout_kept}
use Rattle.dht_section.specs.Location.{entry_at, prepared_at}
use Rattle.dht_section.specs.Looks.{file_in, lengthened}
use Rattle.dht_section.specs.Moves.{Guarantee}
use Rattle.dht_section.specs.Release.{release_after}
use Rattle.dht_section.specs.Replies.{fault_of, is_shown, range_shown}
use Rattle.dht_section.specs.Scene.{Scene, Sound}
use Rattle.dht_section.specs.Section.{begun, held_holder, held_looked, section_after, shows_gone}
use Rattle.dht_section.specs.Stages.{MatchTurn, Served}
use Rattle.dht_section.specs.declared.location.Location.{Location}
use Rattle.dht_section.specs.declared.looks.Place.{Place}
use Rattle.dht_section.specs.declared.machine.Ask.{Ask}
use Rattle.dht_section.specs.declared.machine.Turn.{Turn}
use Rattle.dht_section.specs.declared.machine.Turn.TheVariants.{Go, Done}
use Rattle.dht_section.specs.declared.release.Release.{Release}
use Rattle.dht_section.specs.declared.section.Held.{Held}
use Rattle.dht_section.specs.declared.section.Opened.{Opened}
use Rattle.dht_section.specs.declared.section.Opened.TheVariants.{Held as Holding, Gone as IsGone, Stopped as IsStopped}
use Rattle.dht_section.specs.declared.section.Prepared.{Prepared}
use Rattle.dht_section.specs.declared.section.Section.{Section}
use Rattle.dht_resolve.proofs.LookupSteps.{brick_shows, exclude, shown_reply, survey_reply}
use Rattle.dht_resolve.proofs.NameSteps.{of_both}
use Rattle.dht_resolve.specs.FirstWay.{HasAimed, HasRead, IfFirst, IsAtEnd, IsElsewhere, OnWay}
use Rattle.dht_resolve.specs.FirstWayLaws.{placed_before, same_below}
use Rattle.dht_resolve.specs.Found.{shown_as, shown_main}
use Rattle.dht_resolve.specs.Lookup.{IsMisplaced, Seeks, aimed, aimed_at, first_lookup, holder_in, linkto_ask, look_ask, lookup_stage}
use Rattle.dht_resolve.specs.LookupLaws.{misplaced_name, misplaced_stands, room_count, seeks_there}
use Rattle.dht_resolve.specs.Turns.{found_by, gone, holder_looked, holder_showed, laid_by, linked_looked, linked_showed, lookup_after, placed_by, release_turned, section_turned, survey_answered, surveyed, unless_fault, wants_linkto}
use Rattle.dht_resolve.specs.declared.lookup.Answered.{Answered}
use Rattle.dht_resolve.specs.declared.lookup.Lookup.{Lookup}
use Rattle.dht_resolve.specs.declared.lookup.Lookup.TheVariants.{Surveying, LookingAtHolder, FollowingLinkto, LookingEverywhere, LayingLinkto, Ending}
use Rattle.dht_resolve.specs.declared.lookup.Misplaced.{Misplaced}
use Rattle.dht_resolve.specs.declared.lookup.Resolved.{Resolved}
use Rattle.dht_resolve.specs.declared.lookup.Shown.{Shown}
use Rattle.dht_resolve.specs.declared.lookup.Shown.TheVariants.{Nothing, Dir, File, Leads}
use Rattle.dht_resolve.specs.declared.lookup.Sought.{Sought}

-- it is on its way after the turn, or at its end
abbrev Goes : Scene → Turn Lookup Resolved → Type 0
Goes t turn = MatchTurn turn (λ n. OnWay n t) (λ d. IsAtEnd d.answered t)

-- the name is not placed, if the call is a first lookup
abbrev IsAway : Location → Scene → Type 0
IsAway l t = IfFirst l (IsElsewhere l) t

-- ---- before a request of one's own

-- a call that is a first lookup was one
first_before :
    (l : Location) (s t : Scene) (a : Ask) (r : Reply) → Guarantee s a r t
    → IsFirstLookup t.history t.mine (entry_at l) → IsFirstLookup s.history s.mine (entry_at l)
first_before l s t a r m now = record {
  looks_up = sym m.mine.call ∙ now.looks_up;
  first = sym m.mine.is_first ∙ now.first;
  alone = alone_before s t a r m now.alone;
}

-- a quiet request places no name
away_moved :
    (l : Location) (s t : Scene) (a : Ask) (r : Reply) → IsQuiet a.request → Guarantee s a r t
    → IsAway l s → IsAway l t
away_moved l s t a r quiet m h now p = h (first_before l s t a r m now) (placed_before s t (entry_at l) (quiet_same s t a r quiet m) p)

-- ---- at its end

-- a name that is not placed is no matter
away_ends : (x : Answered) (t : Scene) → IsAway x.location t → IsAtEnd x t
away_ends x t h g e p now = absurd (h now p)

-- nor is the answer of a brick that is down, failed or has no memory
stops :
    (r : Reply) (t : Scene) (o : Option Errno) (l : Location)
    (layout : Option (List (Option Range))) (turn : Turn Lookup Resolved)
    → fault_of r ≡ o → (fault_of r ≡ None → Goes t turn) → Goes t (unless_fault o l layout turn)
stops r t None l layout turn z go = go z
stops r t (Some e) l layout turn z go = λ g k. absurd (let q : answer.Fault e ≡ answer.File g = k in cc)

-- ---- the survey

below_more :
    (s : Scene) (g : Gfid) (n : ℕ)
    → ranges_below s.disk g (n + 1) ≡ ranges_below s.disk g n ++ range_at s.disk g n ∷ []
unfolding ranges_below
below_more s g n = ap (ranges_below s.disk g) (let e : n + 1 ≡ suc n = omega arith in e)

-- all bricks have shown their ranges
record HasReadAll (l : Location) (ranges : List (Option Range)) (s : Scene) : Type 0 where
  count : s.disk.count ≡ l.bricks
  steps : s.mine.steps ≤ length s.history.weights
  read : ranges ≡ layout_of s.disk l.directory

aimed_way :
    (l : Location) (p : Prepared) (learned : Option (List (Option Range)))
    (ranges : List (Option Range)) (o : Option ℕ) (t : Scene)
    → holder_in ranges l.name ≡ o → IfFirst l (HasReadAll l ranges) t
    → OnWay (aimed_at l p learned o) t
aimed_way l p learned ranges o t e h = by o e
  where
    holds : (i : Option ℕ) → holder_in ranges l.name ≡ i → HasReadAll l ranges t → holder_of t.disk (entry_at l) ≡ i
    holds i k all = ap (λ (xs : List (Option Range)). holder_by xs (dm l.name)) (sym all.read) ∙ k

    outside : (b : ℕ) → holder_in ranges l.name ≡ Some b → nat_lt b l.bricks ≡ false → IsAway l t
    outside b k far now placed =
        let z : Some placed.brick ≡ Some b = sym placed.holds ∙ holds (Some b) k (h now) in
        let same : placed.brick ≡ b = cc in
        let there = placed.there in
        let count = (h now).count in
        grind (arith, nat_tests, far, same, there, count)

    by : (i : Option ℕ) → holder_in ranges l.name ≡ i → OnWay (aimed_at l p learned i) t
    by None k = λ now placed. (let z : Some placed.brick ≡ None = sym placed.holds ∙ holds None k (h now) in cc)
    by (Some b) k = test (nat_lt b l.bricks) refl
      where
        test : (v : Bool) → nat_lt b l.bricks ≡ v → OnWay (if v then LookingAtHolder (record { location = l; brick = record { 0 = b }; learned = learned }) p else LookingEverywhere l (begun p) learned) t
        test true q = λ now. record { steps = (h now).steps; holds = holds (Some b) k (h now) }
        test false q = outside b k q

surveyed_way :
    (l : Location) (p : Prepared) (b : BrickNo) (ranges : List (Option Range)) (t : Scene) → Sound t
    → b.0 < l.bricks → t.disk.count ≡ l.bricks
    → IfFirst l (HasRead l (record { 0 = b.0 + 1 }) ranges) t → OnWay (surveyed l p b ranges) t
surveyed_way l p b ranges t sound within count h = by (nat_le (l.bricks - b.0) 1) refl
  where
    by : (v : Bool) → nat_le (l.bricks - b.0) 1 ≡ v → OnWay (if v then aimed l p (Some ranges) ranges else Surveying l p (record { 0 = b.0 + 1 }) ranges) t
    by true e =
        let last : b.0 + 1 ≡ t.disk.count = grind (arith, nat_tests, e, within, count) in
        aimed_way l p (Some ranges) ranges (holder_in ranges l.name) t refl (λ now.
        (let k = h now in
        let steps = k.steps in
        let counted = sound.kept.counted in
        record { count = count; steps = omega arith; read = k.read ∙ ap (ranges_below t.disk l.directory) last }))
    by false e = h

-- a brick that is up shows the range of the directory
shows_range :
    (o : Option DirRecord) (g : Gfid) (c : Contents)
    → range_shown (shown_reply o (λ x. given.Dirinfo (info_of c.store g x)) c) ≡ range_of o
shows_range None g c = refl
shows_range (Some x) g c = refl

survey_way :
    (l : Location) (p : Prepared) (b : BrickNo) (ranges : List (Option Range)) (r : Reply) (at : ℕ)
    (s t : Scene)
    → fault_of r ≡ None → Served (lookup_stage (Surveying l p b ranges)) r at s t
    → IfFirst l (HasRead l b ranges) s → Goes t (survey_answered l p b ranges r at)
survey_way l p b ranges r at s t z v h = by (shows_gone l.directory b r) (is_shown r) refl
  where
    c : Contents
    c = s.disk.brick b.0

    reply : r ≡ shown_reply (dir c.store l.directory) (λ x. given.Dirinfo (info_of c.store l.directory x)) c
    reply = survey_reply l p b ranges r at s t z v

    shown : is_shown r ≡ true
    shown = ap is_shown reply ∙ brick_shows (dir c.store l.directory) (λ x. given.Dirinfo (info_of c.store l.directory x)) c

    range : range_shown r ≡ range_at s.disk l.directory b.0
    range = ap range_shown reply ∙ shows_range (dir c.store l.directory) l.directory c

    before : s.disk.count ≡ l.bricks
    before = room_count l p s v.before v.is_at.knows.waits

    more : HasRead l b ranges s → lengthened ranges (range_shown r) ≡ ranges_below s.disk l.directory (b.0 + 1)
    more k =
        let within = v.is_at.knows.within in
        let few = v.before.kept.few in
        let count = before in
        let size : length ranges ≡ b.0 = ap length k.read ∙ below_length s.disk l.directory b.0 in
        longer ranges (range_shown r) (omega arith)
        ∙ (ap (λ (xs : List (Option Range)). xs ++ range_shown r ∷ []) k.read
        ∙ (ap (λ (o : Option Range). ranges_below s.disk l.directory b.0 ++ o ∷ []) range
        ∙ sym (below_more s l.directory b.0)))

    on : IfFirst l (HasRead l (record { 0 = b.0 + 1 }) (lengthened ranges (range_shown r))) t
    on now =
        let k = h (first_before l s t _ r v.moved now) in
        let one = v.moved.mine.steps in
        let steps = k.steps in
        record {
          steps = omega arith;
          read = more k ∙ sym (same_below s t l.directory (b.0 + 1) (quiet_same s t _ r tt v.moved));
        }

    by : (x w : Bool) → is_shown r ≡ w → Goes t (if x then gone l at None else (if w then Go (surveyed l p b (lengthened ranges (range_shown r))) else Go (Surveying l p b ranges)))
    by true w e = λ g k. absurd (let q : answer.Fault Estale ≡ answer.File g = k in cc)
    by false true e = surveyed_way l p b (lengthened ranges (range_shown r)) t v.after v.is_at.knows.within (v.moved.disk.count ∙ before) on
    by false false e = absurd (exclude (is_shown r) shown e)

-- ---- the looks before any lock

-- a holder that shows no file tells that the name is not placed
missed :
    (x : Sought) (p : Prepared) (r : Reply) (s t : Scene) → fault_of r ≡ None → Sound s
    → Seeks x.location p x.brick s → Guarantee s (look_ask x) r t
    → ((f : Gfid) → shown_as x.location.bricks r ≡ File f → ⊥) → IfFirst x.location (HasAimed x) s
    → IsAway x.location t
missed x p r s t z sound seeks m nofile h now placed =
    let e : Entry = entry_at x.location in
    let was = placed_before s t e (quiet_same s t _ r tt m) placed in
    let k = h (first_before x.location s t _ r m now) in
    let same : was.brick ≡ x.brick.0 = (let q : Some was.brick ≡ Some x.brick.0 = sym was.holds ∙ k.holds in cc) in
    let main = look_main e x.brick s t r sound (seeks_there x.location p x.brick s sound seeks) z m in
    nofile was.file
    (ap (shown_main x.location.bricks) (main
    ∙ (ap (λ (i : ℕ). (slot_at s.disk i e).main) (sym same)
    ∙ ap (λ (q : Slot). q.main) was.slot)))

holder_way :
    (x : Sought) (p : Prepared) (r : Reply) (at : ℕ) (s t : Scene) (shown : Shown)
    → shown_as x.location.bricks r ≡ shown → fault_of r ≡ None
    → Served (lookup_stage (LookingAtHolder x p)) r at s t → IfFirst x.location (HasAimed x) s
    → Goes t (holder_showed x p shown at)
holder_way x p r at s t (File f) e z v h = λ g k placed now.
    (let steps = (h (first_before x.location s t _ r v.moved now)).steps in
    let one = v.moved.mine.steps in
    let weights = ap length v.moved.weights in
    omega arith)
holder_way x p r at s t (Dir d) e z v h = λ g k. absurd (let q : answer.Dir d ≡ answer.File g = k in cc)
holder_way x p r at s t (Leads b) e z v h = missed x p r s t z v.before v.is_at.knows v.moved (λ f k. (let q : Leads b ≡ File f = sym e ∙ k in cc)) h
holder_way x p r at s t Nothing e z v h = missed x p r s t z v.before v.is_at.knows v.moved (λ f k. (let q : Nothing ≡ File f = sym e ∙ k in cc)) h

look_way :
    (x : Sought) (p : Prepared) (r : Reply) (at : ℕ) (s t : Scene) (v : Bool) → is_shown r ≡ v
    → fault_of r ≡ None → Served (lookup_stage (LookingAtHolder x p)) r at s t
    → IfFirst x.location (HasAimed x) s
    → Goes t
    (if v
    then holder_showed x p (shown_as x.location.bricks r) at
    else Go (LookingAtHolder x p))
look_way x p r at s t true e z v h = holder_way x p r at s t (shown_as x.location.bricks r) refl z v h
look_way x p r at s t false e z v h = absurd (exclude (is_shown r) (look_answered (entry_at x.location) x.brick s t r z v.moved) e)

linked_way :
    (x : Sought) (p : Prepared) (at : ℕ) (t : Scene) (shown : Shown) → IsAway x.location t
    → Goes t (linked_showed x p shown at)
linked_way x p at t (File f) h = λ g k placed now. absurd (h now placed)
linked_way x p at t (Dir d) h = λ g k placed now. absurd (h now placed)
linked_way x p at t (Leads b) h = h
linked_way x p at t Nothing h = h

-- ---- the section

placed_way :
    (o : Option ℕ) (l : Location) (k : Held) (p : Place) (t : Scene) → IsAway l t
    → OnWay (placed_by o l k p) t
placed_way None l k p t h = h
placed_way (Some b) l k p t h = of_both (λ n. OnWay n t) (wants_linkto l k b p) _ _ h h

found_way :
    (o : Option Place) (l : Location) (k : Held) (t : Scene) → IsAway l t → OnWay (found_by o l k) t
found_way None l k t h = h
found_way (Some p) l k t h = placed_way (held_holder k (entry_at l)) l k p t h

section_way :
    (l : Location) (turn : Turn Section Opened) (learned : Option (List (Option Range))) (t : Scene)
    → IsAway l t → Goes t (section_turned l turn learned)
section_way l (Go m) learned t h = h
section_way l (Done (Holding k)) learned t h = found_way (file_in (held_looked k (entry_at l)).sight.what) l k t h
section_way l (Done (IsGone g at)) learned t h = λ f k placed now. absurd (h now placed)
section_way l (Done (IsStopped e)) learned t h = λ f k placed now. absurd (h now placed)

-- ---- the linkto, and the release

-- a linkto leaves the directories
slot_leaves :
    (d : Gfid) (n value : List ℕ) (c : Contents) (o : Option Slot)
    → (left_by (within (with_store c) (on_slot (MakeLinkto d n value) c.store (d, n) o)) c).store.dirs
    ≡ c.store.dirs
slot_leaves d n value c None = refl
slot_leaves d n value c (Some x) = refl

linkto_leaves :
    (bricks : List (List ℕ)) (d : Gfid) (n value : List ℕ) (c : Contents) (o : Option DirRecord)
    → (left_by
    (within (with_store c)
    (in_dir o (λ x. slot_change bricks (MakeLinkto d n value) c.store (d, n))))
    c).store.dirs
    ≡ c.store.dirs
linkto_leaves bricks d n value c None = refl
linkto_leaves bricks d n value c (Some x) = slot_leaves d n value c (slot_row bricks c.store (MakeLinkto d n value) (slot c.store (d, n)))

-- the file is still not on the name's holder
still_away :
    (y : Misplaced) (r : Reply) (s t : Scene) → Sound s → IsMisplaced y s
    → Guarantee s (linkto_ask y) r t → IsElsewhere y.location t
still_away y r s t sound h m placed =
    let same : placed.brick ≡ y.holder.0 = (let q : Some placed.brick ≡ Some y.holder.0 = sym placed.holds ∙ (holder ∙ held_holder_is l y.held y.holder.0 s sound h.held h.holds) in cc) in
    let bare = placed.alone y.place.brick.0 there (λ q. h.apart (sym (q ∙ same))) in
    let z : None ≡ Some y.place.file = ap name_in (sym bare) ∙ (ap (λ (c : Contents). name_in (slot c.store e)) kept ∙ misplaced_name y s h) in
    cc
  where
    l : Location
    l = y.location

    e : Entry
    e = entry_at l

    dirs : (b : ℕ) → (t.disk.brick b).store.dirs ≡ (s.disk.brick b).store.dirs
    dirs b = brick_keeps (λ (c : Contents). c.store.dirs) s t (linkto_ask y) r m (linkto_leaves (replay_names (length s.history.weights)) l.directory l.name _ (s.disk.brick y.holder.0) (dir (s.disk.brick y.holder.0).store l.directory)) b

    holder : holder_of t.disk e ≡ holder_of s.disk e
    holder = ap (λ (xs : List (Option Range)). holder_by xs (dm l.name)) (layout_kept s.disk t.disk l.directory m.disk.count (λ b. ap (λ (x : Dirs). get x l.directory) (dirs b)))

    kept : t.disk.brick y.place.brick.0 ≡ s.disk.brick y.place.brick.0
    kept = ap (λ (f : ℕ → Contents). f y.place.brick.0) m.disk.brick ∙ put_other nat_eq exact_nat s.disk.brick y.holder.0 m.new y.place.brick.0 (λ q. h.apart (sym q))

    there : y.place.brick.0 < t.disk.count
    there = (let fits : y.place.brick.0 < s.disk.count = (misplaced_stands y s h).fits in let count = m.disk.count in omega arith)

laid_way :
    (o : Option Errno) (y : Misplaced) (r : Reply) (t : Scene) → IsAway y.location t
    → OnWay (laid_by o y r) t
laid_way None y r t h = of_both (λ n. OnWay n t) (is_carried (reply_kind r)) _ _ h h
laid_way (Some e) y r t h = h

release_way :
    (turn : Turn Release Prepared) (x : Answered) (t : Scene) → IsAway x.location t
    → Goes t (release_turned turn x)
release_way (Go m) x t h = h
release_way (Done p) x t h = away_ends x t h

-- ---- all of it

pub way_next :
    (m : Lookup) (r : Reply) (at : ℕ) (s t : Scene) → Served (lookup_stage m) r at s t → OnWay m s
    → MatchTurn (lookup_after m r at) (λ n. OnWay n t) (λ d. IsAtEnd d.answered t)
way_next (Surveying l p b ranges) r at s t v h = stops r t (fault_of r) l None (survey_answered l p b ranges r at) refl (λ z. survey_way l p b ranges r at s t z v h)
way_next (LookingAtHolder x p) r at s t v h = stops r t (fault_of r) x.location x.learned (holder_looked x p r at) refl (λ z. look_way x p r at s t (is_shown r) refl z v h)
way_next (FollowingLinkto x p) r at s t v h =
    let away = away_moved x.location s t _ r tt v.moved h in
    stops r t (fault_of r) x.location x.learned (linked_looked x p r at) refl (λ z. of_both (Goes t) (is_shown r) _ _ (linked_way x p at t (shown_as x.location.bricks r) away) away)
way_next (LookingEverywhere l m learned) r at s t v h = section_way l (section_after m r at) learned t (away_moved l s t _ r (asks_quiet m) v.moved h)
way_next (LayingLinkto y) r at s t v h = laid_way (fault_of r) y r t (λ now. still_away y r s t v.before v.is_at.knows v.moved)
way_next (Ending m x) r at s t v h = release_way (release_after m) x t (away_moved x.location s t _ r tt v.moved h)

-- ---- its beginning

nothing_read : (l : Location) (s : Scene) → [] ≡ ranges_below s.disk l.directory 0
unfolding ranges_below
nothing_read l s = refl

pub way_first :
    (l : Location) (known : Option (List (Option Range))) (s : Scene) → s.mine.steps ≡ 0
    → (s.mine.is_first ≡ true → known ≡ None) → OnWay (first_lookup l known) s
way_first l None s none first = λ now. record { steps = omega arith; read = nothing_read l s }
way_first l (Some ranges) s none first = aimed_way l (prepared_at l) None ranges (holder_in ranges l.name) s refl (λ now. absurd (let z : Some ranges ≡ None = first now.first in cc))
