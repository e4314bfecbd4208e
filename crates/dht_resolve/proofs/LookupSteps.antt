-- The steps of a lookup.
use Rattle.std.proofs.Common.{◌≡◌, ◌≢◌, ◌<◌, ◌≤◌, ◌+◌, ◌-◌, ℕ, Bool, true, false, List, [], refl, sym, ◌∙◌, ap, subst, arith}
use Rattle.std.specs.Prelude.{Option, Some, None, is_some, length, not, ◌&&◌, nat_lt, nat_le, nat_eq, if◌then◌else◌, slice_index_or}
use Rattle.std.proofs.lemmas.Bool.Decides.{nat_tests}
use Rattle.std.proofs.lemmas.List.Quantifiers.{position-Some}
use Rattle.std.specs.Str.{bytes_eq}
use Rattle.dht_types.proofs.PutLaws.{exact_nat}
use Rattle.dht_types.proofs.VolumeLemmas.{length-replay_names}
use Rattle.dht_types.specs.Gfid.{home}
use Rattle.dht_types.specs.History.{is_carried}
use Rattle.dht_types.specs.Linkto.{linked_brick, linkto_value, without_zero}
use Rattle.dht_types.specs.Tree.{IsFile, IsDir}
use Rattle.dht_types.specs.Volume.{replay_names}
use Rattle.dht_types.specs.declared.calls.Answer.TheVariants as answer
use Rattle.dht_types.specs.declared.calls.TreeStep.{TreeStep}
use Rattle.dht_types.specs.declared.errors.Errno.{Errno}
use Rattle.dht_types.specs.declared.identifiers.BrickNo.{BrickNo}
use Rattle.dht_types.specs.declared.identifiers.Gfid.{Gfid}
use Rattle.dht_types.specs.declared.locks.Mode.TheVariants.{Shared}
use Rattle.dht_types.specs.declared.stored.DirRecord.{DirRecord}
use Rattle.dht_types.specs.declared.stored.Main.{Main}
use Rattle.dht_types.specs.declared.stored.Main.TheVariants as main
use Rattle.dht_types.specs.declared.stored.Slot.{Slot}
use Rattle.dht_xattr.specs.declared.range.Range.{Range}
use Rattle.dht_brick.specs.Contents.{Contents, dir, slot}
use Rattle.dht_brick.specs.Kinds.{reply_kind}
use Rattle.dht_brick.specs.Looks.{info_of, look_of}
use Rattle.dht_brick.specs.NameRows.{on_slot, when}
use Rattle.dht_brick.specs.Outcome.{Do, in_dir, within, reply_in}
use Rattle.dht_brick.specs.Parts.{is_vacant, with_main}
use Rattle.dht_brick.specs.Rows.{with_store}
use Rattle.dht_brick.specs.declared.replies.Given.{Given}
use Rattle.dht_brick.specs.declared.replies.Given.TheVariants as given
use Rattle.dht_brick.specs.declared.replies.Reply.{Reply}
use Rattle.dht_brick.specs.declared.replies.Reply.TheVariants as reply
use Rattle.dht_brick.specs.declared.requests.NameRequest.TheVariants.{MakeLinkto}
use Rattle.dht_section.proofs.ClaimLaws.{claims_more}
use Rattle.dht_section.proofs.EarlyLaws.{here_off}
use Rattle.dht_section.proofs.FirstSection.{one_fresh, one_ordered, starts}
use Rattle.dht_section.proofs.LocationLaws.{home_there, looked_is}
use Rattle.dht_section.proofs.PartSteps.{part_served, part_goes_on, part_ends, free_goes_on, free_ends}
use Rattle.dht_section.proofs.SceneLaws.{IsQuiet, deeds_quiet, fault_earned, row_reply, tree_quiet}
use Rattle.dht_section.proofs.ReleaseSteps.{can_begin_moved, release_moves, releases}
use Rattle.dht_section.proofs.SectionLooks.{both, home_gone}
use Rattle.dht_section.proofs.SectionParts.{fault_errors, gone_directory}
use Rattle.dht_section.proofs.SectionSteps.{keeps_scope, leaves_unlocks, names_gone, notes_fault, section_moves}
use Rattle.dht_section.proofs.ShownLaws.{in_dir_there}
use Rattle.dht_section.proofs.UnlockingSteps.{scope_moved}
use Rattle.dht_section.proofs.WholeSteps.{asks_quiet}
use Rattle.dht_section.specs.Claims.{Lock, claims_locks}
use Rattle.dht_section.specs.Faults.{part_fault}
use Rattle.dht_section.specs.Disk.{dir_at, slot_at}
use Rattle.dht_section.specs.Ended.{gone_at}
use Rattle.dht_section.specs.Location.{IsHeldAt, entry_at, section_at}
use Rattle.dht_section.specs.Looks.{file_in, is_nodir, lengthened, mark_at, main_shown}
use Rattle.dht_section.specs.Moves.{Guarantee, deeds_by, step_of, tree_by}
use Rattle.dht_section.specs.Replies.{fault_of, is_shown, range_shown}
use Rattle.dht_section.specs.Scene.{Scene, Sound, fault_finish}
use Rattle.dht_section.specs.Section.{KeepsScope, LeavesUnlocks, NamesGone, NotesFault, Outlasts, ReadAt, fault_now, held_holder, held_layout, held_looked, section_fault, opened_ending, section_after, section_scope, section_stage, shows_gone}
use Rattle.dht_section.specs.SectionLaws.{bricks_are}
use Rattle.dht_section.specs.Stages.{Stage, Served, GoesOn, EndsIn, Moves, MatchTurn}
use Rattle.dht_section.specs.Views.{visible}
use Rattle.dht_section.specs.Release.{memory_of, release_stage, released_ending}
use Rattle.dht_section.specs.ReleaseLaws.{begins_anew}
use Rattle.dht_section.specs.Want.{Scoped, claimed}
use Rattle.dht_section.specs.declared.release.Release.{Release}
use Rattle.dht_section.specs.declared.location.Location.{Location}
use Rattle.dht_section.specs.declared.looks.Place.{Place}
use Rattle.dht_section.specs.declared.machine.Ask.{Ask}
use Rattle.dht_section.specs.declared.machine.Finish.{Finish}
use Rattle.dht_section.specs.declared.machine.Turn.{Turn}
use Rattle.dht_section.specs.declared.machine.Turn.TheVariants.{Go, Done}
use Rattle.dht_section.specs.declared.section.Held.{Held}
use Rattle.dht_section.specs.declared.section.Opened.{Opened}
use Rattle.dht_section.specs.declared.section.Opened.TheVariants.{Held as Holding, Gone as IsGone, Stopped as IsStopped}
use Rattle.dht_section.specs.declared.section.Section.{Section}
use Rattle.dht_section.specs.declared.section.Section.TheVariants.{Locking, Looking, Unlocking}
use Rattle.dht_resolve.proofs.AnsweredLaws.{a_place, answered_moved, brick_errors, fault_answered, gone_answered, held_answered, no_place, not_in_itself}
use Rattle.dht_resolve.proofs.FreeLooks.{look_told, told}
use Rattle.dht_resolve.specs.Found.{leads_to, shown_as, shown_main}
use Rattle.dht_resolve.specs.Lookup.{Answers, HasPlace, HasRoom, IsAnswered, IsMisplaced, IsRoom, MayLookUp, Secures, Seeks, Waits, aimed, aimed_at, first_lookup, found_answer, holder_in, linkto_ask, look_ask, lookup_again, lookup_stage, lookup_steps, resolved, seen_finish}
use Rattle.dht_resolve.specs.LookupLaws.{holder_there, misplaced_stands}
use Rattle.dht_resolve.specs.Turns.{answers_file, answers_so, closed, done_as, found_by, gone, release_turned, shown_at, holder_looked, holder_showed, laid_by, linked_looked, linked_showed, lookup_after, placed_by, section_turned, survey_answered, surveyed, unless_fault, wants_linkto}
use Rattle.dht_resolve.specs.declared.lookup.Answered.{Answered}
use Rattle.dht_resolve.specs.declared.lookup.Lookup.{Lookup}
use Rattle.dht_resolve.specs.declared.lookup.Lookup.TheVariants.{Surveying, LookingAtHolder, FollowingLinkto, LookingEverywhere, LayingLinkto, Ending}
use Rattle.dht_resolve.specs.declared.lookup.Misplaced.{Misplaced}
use Rattle.dht_resolve.specs.declared.lookup.Resolved.{Resolved}
use Rattle.dht_resolve.specs.declared.lookup.Shown.{Shown}
use Rattle.dht_resolve.specs.declared.lookup.Shown.TheVariants.{Nothing, Dir, File, Leads}
use Rattle.dht_resolve.specs.declared.lookup.Sought.{Sought}
use Rattle.dht_section.specs.declared.section.Prepared.{Prepared}
use Rattle.dht_section.specs.Section.{begun}
use Rattle.dht_section.specs.Location.{prepared_at}

-- a lookup went on so, or ended
abbrev Went : Stage → Reply → Scene → Turn Lookup Resolved → Type 0
Went x r t turn = MatchTurn turn (λ n. GoesOn x (lookup_stage n) r t) (λ d. EndsIn x (resolved d) t)

-- ---- where a lookup goes on that has claimed nothing

-- it is in a stage that claims these locks, in which it still sends at most so many requests
pub record Ready (m : Lookup) (limit : ℕ) (t : Scene) : Type 0 where
  pub next : List Lock
  pub claims : (lookup_stage m).claims ≡ claims_locks next
  pub variant : (lookup_stage m).variant ≤ limit
  pub knows : (lookup_stage m).knows t

sooner : (m : Lookup) (n limit : ℕ) (t : Scene) → n ≤ limit → Ready m n t → Ready m limit t
sooner m n limit t l h = record { next = h.next; claims = h.claims; variant = let v = h.variant in omega arith; knows = h.knows }

secures :
    (l : Location) (p : Prepared) (learned : Option (List (Option Range))) (t : Scene) → Waits l p t
    → Ready (LookingEverywhere l (begun p) learned) (l.bricks + 5) t
secures l p learned t h =
    let v : (section_stage (begun p)).variant ≡ l.bricks + 4 = ap (λ (w : Scoped). (section_stage (Locking w 0 [])).variant) h.scope ∙ (starts l.bricks l.directory Shared l.name).variant in
    record {
      next = claimed p.scope 1;
      claims = refl;
      variant = omega arith;
      knows = (begins_anew p t h.can, record { scope = h.scope; fault = refl; deeds = h.can.fresh.deeds });
    }

seeks :
    (l : Location) (p : Prepared) (learned : Option (List (Option Range))) (b : ℕ) (t : Scene)
    → b < l.bricks → Waits l p t
    → Ready
    (LookingAtHolder (record { location = l; brick = record { 0 = b }; learned = learned }) p)
    (l.bricks + 7) t
seeks l p learned b t within h = record { next = []; claims = refl; variant = omega arith; knows = record { waits = h; within = within } }

follows :
    (x : Sought) (p : Prepared) (b : BrickNo) (t : Scene) → b.0 < x.location.bricks
    → Waits x.location p t
    → Ready (FollowingLinkto (record x { brick = b }) p) (x.location.bricks + 6) t
follows x p b t within h = record { next = []; claims = refl; variant = omega arith; knows = record { waits = h; within = within } }

aimed_ready :
    (l : Location) (p : Prepared) (learned : Option (List (Option Range))) (o : Option ℕ)
    (t : Scene)
    → Waits l p t → Ready (aimed_at l p learned o) (l.bricks + 7) t
aimed_ready l p learned None t h = sooner (LookingEverywhere l (begun p) learned) (l.bricks + 5) (l.bricks + 7) t (omega arith) (secures l p learned t h)
aimed_ready l p learned (Some b) t h = by (nat_lt b l.bricks) refl
  where
    by : (v : Bool) → nat_lt b l.bricks ≡ v → Ready (if v then LookingAtHolder (record { location = l; brick = record { 0 = b }; learned = learned }) p else LookingEverywhere l (begun p) learned) (l.bricks + 7) t
    by true e = seeks l p learned b t (grind (arith, nat_tests, e)) h
    by false e = sooner (LookingEverywhere l (begun p) learned) (l.bricks + 5) (l.bricks + 7) t (omega arith) (secures l p learned t h)

surveyed_ready :
    (l : Location) (p : Prepared) (b : BrickNo) (ranges : List (Option Range)) (t : Scene)
    → b.0 < l.bricks → Waits l p t
    → Ready (surveyed l p b ranges) ((l.bricks - b.0) + l.bricks + 6) t
surveyed_ready l p b ranges t within h = by (nat_le (l.bricks - b.0) 1) refl
  where
    by : (v : Bool) → nat_le (l.bricks - b.0) 1 ≡ v → Ready (if v then aimed l p (Some ranges) ranges else Surveying l p (record { 0 = b.0 + 1 }) ranges) ((l.bricks - b.0) + l.bricks + 6) t
    by true e =
        let a = aimed_ready l p (Some ranges) (holder_in ranges l.name) t h in
        let v = a.variant in
        record { next = a.next; claims = a.claims; variant = omega arith; knows = a.knows }
    by false e = record {
      next = [];
      claims = refl;
      variant = grind (arith, nat_tests, e);
      knows = record { waits = h; within = grind (arith, nat_tests, e) };
    }

-- ---- what is known after a request that claims nothing

waits_moved :
    (l : Location) (p : Prepared) (s t : Scene) (a : Ask) (r : Reply) → IsQuiet a.request
    → Waits l p s → Guarantee s a r t → Waits l p t
waits_moved l p s t a r quiet h v = record { scope = h.scope; can = can_begin_moved p s t a r quiet h.can v }

-- a stage of a lookup that has claimed nothing goes on to one that is ready
goes_on :
    (x : Stage) (n : Lookup) (limit : ℕ) (r : Reply) (at : ℕ) (s t : Scene) → x.claims.locks ≡ []
    → limit < x.variant → Ready n limit t → Served x r at s t → GoesOn x (lookup_stage n) r t
goes_on x n limit r at s t e l ready h =
    let v = ready.variant in
    free_goes_on x (lookup_stage n) ready.next r at s t e ready.claims ready.knows (omega arith) h

-- and it may end so
ends :
    (x : Stage) (d : Resolved) (r : Reply) (at : ℕ) (s t : Scene) → x.claims.locks ≡ []
    → IsAnswered d.answered t → HasRoom d.answered.location d.answered.finish.answer d.room t
    → Served x r at s t → EndsIn x (resolved d) t
ends x d r at s t e right room h = free_ends x (resolved d) r at s t refl e (right, room) h

-- with an answer from which no other part goes on
ends_done :
    (x : Stage) (l : Location) (f : Finish) (layout : Option (List (Option Range))) (r : Reply)
    (at : ℕ) (s t : Scene)
    → x.claims.locks ≡ [] → IsAnswered (answers_so l f None layout) t → HasRoom l f.answer None t
    → Served x r at s t → Went x r t (done_as l f layout)
ends_done x l f layout r at s t e right room h = ends x (record { answered = answers_so l f None layout; room = None }) r at s t e right room h

stops :
    (x : Stage) (l : Location) (learned : Option (List (Option Range)))
    (turn : Turn Lookup Resolved) (r : Reply) (at : ℕ) (s t : Scene) (o : Option Errno)
    → fault_of r ≡ o → x.claims.locks ≡ [] → t.mine.deeds ≡ None
    → (fault_of r ≡ None → Went x r t turn) → Served x r at s t
    → Went x r t (unless_fault o l learned turn)
stops x l learned turn r at s t None z claims deeds go h = go z
stops x l learned turn r at s t (Some e) z claims deeds go h = ends_done x l (fault_finish e) learned r at s t claims (fault_answered l e learned t (brick_errors r e z) (fault_earned s t _ r e z h.moved) deeds) tt h

-- ---- the survey

abbrev pub shown_reply : Option DirRecord → (DirRecord → Given) → Contents → Reply
shown_reply o gives c = reply_in (within (with_store c) (in_dir o (λ x. Do (gives x) c.store)))

-- a brick that is up shows what it has
pub brick_shows :
    (o : Option DirRecord) (gives : DirRecord → Given) (c : Contents)
    → is_shown (shown_reply o gives c) ≡ true
brick_shows None gives c = refl
brick_shows (Some x) gives c = refl

no_record :
    (o : Option DirRecord) (gives : DirRecord → Given) (c : Contents)
    → is_nodir (shown_reply o gives c) ≡ true → o ≡ None
no_record None gives c h = refl
no_record (Some x) gives c h = absurd (let z : false ≡ true = h in cc)

pub exclude : (b : Bool) → b ≡ true → b ≡ false → ⊥
exclude b e k = let z : true ≡ false = sym e ∙ k in cc

pub survey_reply :
    (l : Location) (p : Prepared) (b : BrickNo) (ranges : List (Option Range)) (r : Reply) (at : ℕ)
    (s t : Scene)
    → fault_of r ≡ None → Served (lookup_stage (Surveying l p b ranges)) r at s t
    → r
    ≡ shown_reply (dir (s.disk.brick b.0).store l.directory)
    (λ x. given.Dirinfo (info_of (s.disk.brick b.0).store l.directory x)) (s.disk.brick b.0)
survey_reply l p b ranges r at s t z h = row_reply s t _ r h.moved z

-- the home has no record of the directory
gone_step :
    (l : Location) (p : Prepared) (b : BrickNo) (ranges : List (Option Range)) (r : Reply) (at : ℕ)
    (s t : Scene)
    → fault_of r ≡ None → shows_gone l.directory b r ≡ true
    → Served (lookup_stage (Surveying l p b ranges)) r at s t
    → Went (lookup_stage (Surveying l p b ranges)) r t (gone l at None)
gone_step l p b ranges r at s t z e h =
    let q = both (is_nodir r) (nat_eq b.0 (home l.directory)) e in
    let c : Contents = s.disk.brick b.0 in
    let k = h.is_at.knows.waits in
    let none : dir_at s.disk b.0 l.directory ≡ None = no_record (dir c.store l.directory) (λ x. given.Dirinfo (info_of c.store l.directory x)) c (ap is_nodir (sym (survey_reply l p b ranges r at s t z h)) ∙ q.0) in
    let at_home : dir_at s.disk (home l.directory) l.directory ≡ None = ap (λ (i : ℕ). dir_at s.disk i l.directory) (sym ((exact_nat b.0 (home l.directory)).0 q.1)) ∙ none in
    let was = home_gone l.directory at s t _ r tt k.can.fresh.deeds h.before h.after h.line at_home h.moved in
    ends_done (lookup_stage (Surveying l p b ranges)) l (gone_at at) None r at s t refl (gone_answered l l.directory at None t refl was) tt h

survey_on :
    (l : Location) (p : Prepared) (b : BrickNo) (old ranges : List (Option Range)) (r : Reply)
    (at : ℕ) (s t : Scene)
    → Served (lookup_stage (Surveying l p b old)) r at s t
    → GoesOn (lookup_stage (Surveying l p b old)) (lookup_stage (surveyed l p b ranges)) r t
survey_on l p b old ranges r at s t h =
    let k = h.is_at.knows in
    goes_on (lookup_stage (Surveying l p b old)) (surveyed l p b ranges) ((l.bricks - b.0) + l.bricks + 6) r at s t refl (omega arith) (surveyed_ready l p b ranges t k.within (waits_moved l p s t _ r tt k.waits h.moved)) h

survey_step :
    (l : Location) (p : Prepared) (b : BrickNo) (ranges : List (Option Range)) (r : Reply) (at : ℕ)
    (s t : Scene)
    → fault_of r ≡ None → Served (lookup_stage (Surveying l p b ranges)) r at s t
    → Went (lookup_stage (Surveying l p b ranges)) r t (survey_answered l p b ranges r at)
survey_step l p b ranges r at s t z h = by (shows_gone l.directory b r) (is_shown r) refl refl
  where
    c : Contents
    c = s.disk.brick b.0

    by : (v w : Bool) → shows_gone l.directory b r ≡ v → is_shown r ≡ w → Went (lookup_stage (Surveying l p b ranges)) r t (if v then gone l at None else (if w then Go (surveyed l p b (lengthened ranges (range_shown r))) else Go (Surveying l p b ranges)))
    by true w e k = gone_step l p b ranges r at s t z e h
    by false true e k = survey_on l p b ranges (lengthened ranges (range_shown r)) r at s t h
    by false false e k = absurd (exclude (is_shown r) (ap is_shown (survey_reply l p b ranges r at s t z h) ∙ brick_shows (dir c.store l.directory) (λ x. given.Dirinfo (info_of c.store l.directory x)) c) k)

-- ---- the looks before any lock

-- a brick to which a linkto leads is one of the volume
leads_within :
    (bricks : ℕ) (value : List ℕ) (o : Option ℕ) (b : ℕ)
    → linked_brick (replay_names bricks) value ≡ o → o ≡ Some b → b < bricks
leads_within bricks value o b e k =
    let q = position-Some (λ name. bytes_eq name (without_zero value)) (replay_names bricks) b [] (e ∙ k) in
    let l : b < length (replay_names bricks) = q.0 in
    let size = length-replay_names bricks in
    omega arith

leads_some : (o : Option ℕ) (b : BrickNo) → leads_to o ≡ Leads b → o ≡ Some b.0
leads_some None b e = absurd (let z : Nothing ≡ Leads b = e in cc)
leads_some (Some i) b e = (let z : Leads (record { 0 = i }) ≡ Leads b = e in let k : ◌≡◌ {A = BrickNo} (record { 0 = i }) b = cc in ap (λ (j : BrickNo). Some j.0) k)

shown_within :
    (bricks : ℕ) (m : Option Main) (b : BrickNo) → shown_main bricks m ≡ Leads b → b.0 < bricks
shown_within bricks None b e = absurd (let z : Nothing ≡ Leads b = e in cc)
shown_within bricks (Some (main.Dir g)) b e = absurd (let z : Dir g ≡ Leads b = e in cc)
shown_within bricks (Some (main.File f over)) b e = absurd (let z : File f ≡ Leads b = e in cc)
shown_within bricks (Some (main.Linkto value)) b e = leads_within bricks value (linked_brick (replay_names bricks) value) b.0 refl (leads_some _ b e)

leads_no_file : (o : Option ℕ) (f : Gfid) → leads_to o ≡ File f → ⊥
leads_no_file None f e = (let z : Nothing ≡ File f = e in cc)
leads_no_file (Some b) f e = (let z : Leads (record { 0 = b }) ≡ File f = e in cc)

leads_no_dir : (o : Option ℕ) (g : Gfid) → leads_to o ≡ Dir g → ⊥
leads_no_dir None g e = (let z : Nothing ≡ Dir g = e in cc)
leads_no_dir (Some b) g e = (let z : Leads (record { 0 = b }) ≡ Dir g = e in cc)

-- a look that is taken as a file, or a directory, shows it
shown_file :
    (bricks : ℕ) (m : Option Main) (f : Gfid) → shown_main bricks m ≡ File f
    → (over : Option BrickNo) × (m ≡ Some (main.File f over))
shown_file bricks None f e = absurd (let z : Nothing ≡ File f = e in cc)
shown_file bricks (Some (main.Dir g)) f e = absurd (let z : Dir g ≡ File f = e in cc)
shown_file bricks (Some (main.File x over)) f e = (over, let z : File x ≡ File f = e in let k : x ≡ f = cc in ap (λ g. Some (main.File g over)) k)
shown_file bricks (Some (main.Linkto value)) f e = absurd (leads_no_file _ f e)

shown_dir :
    (bricks : ℕ) (m : Option Main) (g : Gfid) → shown_main bricks m ≡ Dir g → m ≡ Some (main.Dir g)
shown_dir bricks None g e = absurd (let z : Nothing ≡ Dir g = e in cc)
shown_dir bricks (Some (main.Dir x)) g e = (let z : Dir x ≡ Dir g = e in let k : x ≡ g = cc in ap (λ y. Some (main.Dir y)) k)
shown_dir bricks (Some (main.File f over)) g e = absurd (let z : File f ≡ Dir g = e in cc)
shown_dir bricks (Some (main.Linkto value)) g e = absurd (leads_no_dir _ g e)

-- a look by a lookup that has claimed nothing, at a stage that sends so many requests more at most
record FreeLook (x : Sought) (p : Prepared) (stage : Stage) (r : Reply) (at : ℕ) (s t : Scene) : Type 0 where
  asks : stage.asks ≡ look_ask x
  claims : stage.claims.locks ≡ []
  variant : x.location.bricks + 6 ≤ stage.variant
  before : Seeks x.location p x.brick s
  moved : Guarantee s (look_ask x) r t
  served : Served stage r at s t

look_file :
    (x : Sought) (p : Prepared) (stage : Stage) (f : Gfid) (r : Reply) (at : ℕ) (s t : Scene)
    → shown_as x.location.bricks r ≡ File f → FreeLook x p stage r at s t
    → Went stage r t (shown_at x p (answer.File f) (Some x.brick) at)
look_file x p stage f r at s t e h =
    let q = shown_file x.location.bricks (main_shown r) f e in
    let k = look_told x p (main.File f q.0) (IsFile f) r at s t q.1 (told_file f q.0) h.served.before h.served.after h.served.line h.before h.moved in
    ends stage (record { answered = answers_so x.location (record { answer = answer.File f; at = Some at }) (Some x.brick) x.learned; room = Some p }) r at s t h.claims
    (record { told = k.point; place = refl; apart = tt; still = λ now. tt; deeds = k.deeds })
    (waits_moved x.location p s t _ r tt h.before.waits h.moved) h.served
  where
    told_file : (f : Gfid) (over : Option BrickNo) → told (main.File f over) ≡ Some (IsFile f)
    told_file f over = refl

look_dir :
    (x : Sought) (p : Prepared) (stage : Stage) (g : Gfid) (r : Reply) (at : ℕ) (s t : Scene)
    → shown_as x.location.bricks r ≡ Dir g → FreeLook x p stage r at s t
    → Went stage r t (shown_at x p (answer.Dir g) None at)
look_dir x p stage g r at s t e h =
    let k = look_told x p (main.Dir g) (IsDir g) r at s t (shown_dir x.location.bricks (main_shown r) g e) (told_dir g) h.served.before h.served.after h.served.line h.before h.moved in
    ends stage (record { answered = answers_so x.location (record { answer = answer.Dir g; at = Some at }) None x.learned; room = Some p }) r at s t h.claims
    (record {
      told = k.point;
      place = refl;
      apart = not_in_itself t.history.tree (entry_at x.location) g h.served.after.kept.tree k.names;
      still = λ now. k.names;
      deeds = k.deeds;
    })
    (waits_moved x.location p s t _ r tt h.before.waits h.moved) h.served
  where
    told_dir : (g : Gfid) → told (main.Dir g) ≡ Some (IsDir g)
    told_dir g = refl

look_missed :
    (x : Sought) (p : Prepared) (stage : Stage) (r : Reply) (at : ℕ) (s t : Scene)
    → FreeLook x p stage r at s t
    → GoesOn stage (lookup_stage (LookingEverywhere x.location (begun p) x.learned)) r t
look_missed x p stage r at s t h =
    let v = h.variant in
    goes_on stage (LookingEverywhere x.location (begun p) x.learned) (x.location.bricks + 5) r at s t h.claims (omega arith) (secures x.location p x.learned t (waits_moved x.location p s t _ r tt h.before.waits h.moved)) h.served

holder_step :
    (x : Sought) (p : Prepared) (r : Reply) (at : ℕ) (s t : Scene) (shown : Shown)
    → shown_as x.location.bricks r ≡ shown
    → FreeLook x p (lookup_stage (LookingAtHolder x p)) r at s t
    → Went (lookup_stage (LookingAtHolder x p)) r t (holder_showed x p shown at)
holder_step x p r at s t Nothing e h = look_missed x p _ r at s t h
holder_step x p r at s t (Dir g) e h = look_dir x p _ g r at s t e h
holder_step x p r at s t (File f) e h = look_file x p _ f r at s t e h
holder_step x p r at s t (Leads b) e h =
    goes_on (lookup_stage (LookingAtHolder x p)) (FollowingLinkto (record x { brick = b }) p) (x.location.bricks + 6) r at s t refl (omega arith) (follows x p b t (shown_within x.location.bricks (main_shown r) b e) (waits_moved x.location p s t _ r tt h.before.waits h.moved)) h.served

linked_step :
    (x : Sought) (p : Prepared) (r : Reply) (at : ℕ) (s t : Scene) (shown : Shown)
    → shown_as x.location.bricks r ≡ shown
    → FreeLook x p (lookup_stage (FollowingLinkto x p)) r at s t
    → Went (lookup_stage (FollowingLinkto x p)) r t (linked_showed x p shown at)
linked_step x p r at s t Nothing e h = look_missed x p _ r at s t h
linked_step x p r at s t (Dir g) e h = look_dir x p _ g r at s t e h
linked_step x p r at s t (File f) e h = look_file x p _ f r at s t e h
linked_step x p r at s t (Leads b) e h = look_missed x p _ r at s t h

look_shows :
    (x : Sought) (p : Prepared) (stage : Stage) (r : Reply) (at : ℕ) (s t : Scene)
    → fault_of r ≡ None → FreeLook x p stage r at s t → is_shown r ≡ true
look_shows x p stage r at s t z h =
    let c : Contents = s.disk.brick x.brick.0 in
    ap is_shown (row_reply s t _ r h.moved z) ∙ brick_shows (dir c.store x.location.directory) (λ y. given.Look (look_of c.store (entry_at x.location) y)) c

-- a look is always answered
answered_look :
    (x : Sought) (p : Prepared) (stage : Stage) (again : Lookup) (turn : Turn Lookup Resolved)
    (r : Reply) (at : ℕ) (s t : Scene) (v : Bool)
    → is_shown r ≡ v → fault_of r ≡ None → FreeLook x p stage r at s t → Went stage r t turn
    → Went stage r t (if v then turn else Go again)
answered_look x p stage again turn r at s t true e z h went = went
answered_look x p stage again turn r at s t false e z h went = absurd (exclude (is_shown r) (look_shows x p stage r at s t z h) e)

-- ---- the section

-- the section is held, and its locks are given back
record Opens (l : Location) (m : Section) (learned : Option (List (Option Range))) (h : Held) (r : Reply) (t : Scene) : Type 0 where
  sound : Sound t
  held : IsHeldAt l h t
  left : Outlasts m (Holding h)
  ends : EndsIn (section_stage m) (opened_ending (Holding h)) t

held_closes :
    (l : Location) (m : Section) (learned : Option (List (Option Range))) (h : Held)
    (place : Option BrickNo) (r : Reply) (t : Scene)
    → HasPlace (found_answer (held_looked h (entry_at l)).sight.what) place
    → Opens l m learned h r t
    → GoesOn (lookup_stage (LookingEverywhere l m learned))
    (lookup_stage (closed l h (seen_finish (held_looked h (entry_at l))) place)) r t
held_closes l m learned h place r t is k =
    let left = k.left in
    part_ends (section_stage m) (lookup_stage (closed l h (seen_finish (held_looked h (entry_at l))) place)) (opened_ending (Holding h)) 1 (λ s. Secures l m s) r t k.ends refl (omega arith) (
      (releases h t k.ends.earned).knows,
      record {
        right = held_answered l h place (Some (held_layout h (entry_at l))) t k.sound is k.held;
        scope = k.held.scope;
      },
    )

three : (a b c : Bool) → (a && b && c) ≡ true → (a ≡ true) × (b ≡ true)
three true true c h = (refl, refl)
three true false c h = absurd (let z : false ≡ true = h in cc)
three false b c h = absurd (let z : false ≡ true = h in cc)

differ : (i j : ℕ) → not (nat_eq i j) ≡ true → i ≢ j
differ i j h e = (let k : nat_eq i j ≡ true = (exact_nat i j).1 e in let z : false ≡ true = sym (ap not k) ∙ h in cc)

held_misplaced :
    (l : Location) (m : Section) (learned : Option (List (Option Range))) (h : Held) (p : Place)
    (b : ℕ) (r : Reply) (t : Scene)
    → file_in (held_looked h (entry_at l)).sight.what ≡ Some p → held_holder h (entry_at l) ≡ Some b
    → wants_linkto l h b p ≡ true → Opens l m learned h r t
    → GoesOn (lookup_stage (LookingEverywhere l m learned))
    (lookup_stage
    (LayingLinkto
    (record { location = l; held = h; holder = record { 0 = b }; place = p })))
    r t
held_misplaced l m learned h p b r t file holds wants k =
    let left = k.left in
    let q = three (not (nat_eq b p.brick.0)) (mark_at (held_looked h (entry_at l)).sight.copies b) _ wants in
    part_ends (section_stage m) (lookup_stage (LayingLinkto (record { location = l; held = h; holder = record { 0 = b }; place = p }))) (opened_ending (Holding h)) 1 (λ s. Secures l m s) r t k.ends refl (omega arith)
    (record { held = k.held; file = file; holds = holds; apart = differ b p.brick.0 q.0; copied = q.1 })

held_placed :
    (l : Location) (m : Section) (learned : Option (List (Option Range))) (h : Held) (p : Place)
    (o : Option ℕ) (r : Reply) (t : Scene)
    → file_in (held_looked h (entry_at l)).sight.what ≡ Some p → held_holder h (entry_at l) ≡ o
    → Opens l m learned h r t
    → GoesOn (lookup_stage (LookingEverywhere l m learned)) (lookup_stage (placed_by o l h p)) r t
held_placed l m learned h p None r t file holds k = held_closes l m learned h (Some p.brick) r t (a_place _ p p.brick file) k
held_placed l m learned h p (Some b) r t file holds k = by (wants_linkto l h b p) refl
  where
    by : (v : Bool) → wants_linkto l h b p ≡ v → GoesOn (lookup_stage (LookingEverywhere l m learned)) (lookup_stage (if v then LayingLinkto (record { location = l; held = h; holder = record { 0 = b }; place = p }) else answers_file l h p)) r t
    by true e = held_misplaced l m learned h p b r t file holds e k
    by false e = held_closes l m learned h (Some p.brick) r t (a_place _ p p.brick file) k

held_found :
    (l : Location) (m : Section) (learned : Option (List (Option Range))) (h : Held)
    (o : Option Place) (r : Reply) (t : Scene)
    → file_in (held_looked h (entry_at l)).sight.what ≡ o → Opens l m learned h r t
    → GoesOn (lookup_stage (LookingEverywhere l m learned)) (lookup_stage (found_by o l h)) r t
held_found l m learned h None r t e k = held_closes l m learned h None r t (no_place _ e) k
held_found l m learned h (Some p) r t e k = held_placed l m learned h p (held_holder h (entry_at l)) r t e refl k

-- what stopped it is an error of a brick, after each reply
now_fault :
    (m : Section) (r : Reply) → part_fault (section_fault m) ≡ section_fault m
    → part_fault (fault_now m r) ≡ fault_now m r
now_fault (Locking w i looks) r e = fault_errors r
now_fault (Looking w looks n b x) r e = fault_errors r
now_fault (Unlocking w i x) r e = e

noted_error :
    (m : Section) (r : Reply) (o : Option Errno) → o ≡ fault_now m r
    → part_fault (section_fault m) ≡ section_fault m → part_fault o ≡ o
noted_error m r o e h = ap part_fault e ∙ (now_fault m r h ∙ sym e)

section_step :
    (l : Location) (m : Section) (learned : Option (List (Option Range)))
    (turn : Turn Section Opened) (r : Reply) (at : ℕ) (s t : Scene)
    → MatchTurn turn (λ n. GoesOn (section_stage m) (section_stage n) r t)
    (λ d. EndsIn (section_stage m) (opened_ending d) t)
    → KeepsScope m turn → LeavesUnlocks m turn → NamesGone m turn → NotesFault m r turn
    → Served (lookup_stage (LookingEverywhere l m learned)) r at s t
    → Went (lookup_stage (LookingEverywhere l m learned)) r t (section_turned l turn learned)
section_step l m learned (Go n) r at s t went same left of notes v =
    let k = v.is_at.knows.1 in
    part_goes_on (section_stage m) (section_stage n) 1 (λ s. Secures l m s) (λ s. Secures l n s) r t went
    (record { scope = same ∙ k.scope; fault = noted_error m r (section_fault n) notes k.fault; deeds = deeds_quiet s t _ r (asks_quiet m) v.moved ∙ k.deeds })
section_step l m learned (Done (Holding h)) r at s t went same left of notes v =
    let k = v.is_at.knows.1 in
    held_found l m learned h (file_in (held_looked h (entry_at l)).sight.what) r t refl (record {
      sound = v.after;
      held = record { held = went.earned; scope = same ∙ k.scope };
      left = left;
      ends = went;
    })
section_step l m learned (Done (IsGone g line)) r at s t went same left of notes v =
    let k = v.is_at.knows.1 in
    record { claims = went.claims; earned = (gone_answered l g line learned t (gone_directory l (section_scope m) g k.scope of) went.earned, tt) }
section_step l m learned (Done (IsStopped e)) r at s t went same left of notes v =
    let k = v.is_at.knows.1 in
    record {
      claims = went.claims;
      earned = (fault_answered l e learned t (noted_error m r (Some e) notes k.fault) went.earned (deeds_quiet s t _ r (asks_quiet m) v.moved ∙ k.deeds), tt);
    }

-- ---- the linkto

-- it is no step of the tree
no_linkto_step :
    (y : Misplaced) (r : Reply) → step_of (linkto_ask y).brick.0 (linkto_ask y).request r ≡ None
no_linkto_step y (reply.Ok g) = refl
no_linkto_step y (reply.Refused w) = refl
no_linkto_step y (reply.Wait c) = refl
no_linkto_step y reply.Down = refl
no_linkto_step y reply.Failed = refl
no_linkto_step y reply.NoMemory = refl

linkto_deeds :
    (y : Misplaced) (r : Reply) (s t : Scene) → Guarantee s (linkto_ask y) r t
    → t.mine.deeds ≡ s.mine.deeds
linkto_deeds y r s t g = g.mine.deeds_are ∙ ap (λ (o : Option TreeStep). deeds_by s t.history.size o) (no_linkto_step y g.real)

linkto_tree :
    (y : Misplaced) (r : Reply) (s t : Scene) → Guarantee s (linkto_ask y) r t
    → t.history.tree ≡ s.history.tree
linkto_tree y r s t g = g.tree ∙ ap (λ (o : Option TreeStep). tree_by o s.history.tree) (no_linkto_step y g.real)

abbrev laid_layout : Misplaced → Option (List (Option Range))
laid_layout y = Some (held_layout y.held (entry_at y.location))

laid_closes :
    (y : Misplaced) (f : Finish) (place : Option BrickNo) (r : Reply) (at : ℕ) (s t : Scene)
    → IsAnswered (answers_so y.location f place (laid_layout y)) t
    → Served (lookup_stage (LayingLinkto y)) r at s t
    → GoesOn (lookup_stage (LayingLinkto y)) (lookup_stage (closed y.location y.held f place)) r t
laid_closes y f place r at s t right h =
    let held = h.is_at.knows.held.held in
    let some = held.order.some in
    let scope = scope_moved y.held.scope s t _ r held.fresh.scope h.moved in
    record {
      claims = claims_more _ r at s t _ h (λ b key i. i);
      knows = (
        record {
          order = held.order;
          scope = scope;
          within = omega arith;
          earned = record { order = held.order; fresh = record { scope = scope; deeds = right.deeds }; room = held.room };
        },
        record { right = right; scope = h.is_at.knows.held.scope },
      );
      nearer = λ u. (λ w. omega arith, omega arith);
    }

laid_answers :
    (y : Misplaced) (r : Reply) (at : ℕ) (s t : Scene)
    → Served (lookup_stage (LayingLinkto y)) r at s t
    → GoesOn (lookup_stage (LayingLinkto y)) (lookup_stage (answers_file y.location y.held y.place))
    r t
laid_answers y r at s t h =
    let k = h.is_at.knows in
    let f : Finish = seen_finish (held_looked y.held (entry_at y.location)) in
    let before = held_answered y.location y.held (Some y.place.brick) (laid_layout y) s h.before (a_place _ y.place y.place.brick k.file) k.held in
    laid_closes y f (Some y.place.brick) r at s t (answered_moved _ s t _ r (linkto_deeds y r s t h.moved) (linkto_tree y r s t h.moved) h.moved before) h

-- the holder has the directory, and nothing at the name but perhaps a linkto
vacant : (m : Option Main) → visible m ≡ None → is_vacant m ≡ true
vacant None e = refl
vacant (Some (main.Dir g)) e = absurd (let z : Some (main.Dir g) ≡ None = e in cc)
vacant (Some (main.File f over)) e = absurd (let z : Some (main.File f over) ≡ None = e in cc)
vacant (Some (main.Linkto value)) e = refl

holder_vacant :
    (y : Misplaced) (s : Scene) → Sound s → IsMisplaced y s
    → is_vacant (slot_at s.disk y.holder.0 (entry_at y.location)).main ≡ true
holder_vacant y s sound h =
    let stands = misplaced_stands y s h in
    vacant _ (ap (λ (p : Slot). p.main) (stands.has y.holder.0 (holder_there y s sound h)) ∙ here_off (Some (main.File y.place.file None)) y.place.brick.0 y.holder.0 h.apart)

holder_housed :
    (y : Misplaced) (s : Scene) → Sound s → IsMisplaced y s
    → is_some (dir_at s.disk y.holder.0 y.location.directory) ≡ true
holder_housed y s sound h =
    let e = entry_at y.location in
    let x = held_looked y.held e in
    let looked = looked_is y.location y.held s h.held in
    let bricks = bricks_are y.held.scope s sound h.held.held.fresh.scope in
    let there = holder_there y s sound h in
    let whole = looked.whole in
    let read = looked.read y.holder.0 (omega arith) in
    (subst (λ (mark : Bool). ReadAt e.0 mark (slice_index_or x.sight.layout y.holder.0 None) y.holder.0 s) h.copied read).there

-- so the linkto is laid
linkto_laid :
    (y : Misplaced) (r : Reply) (s t : Scene) → Sound s → fault_of r ≡ None → IsMisplaced y s
    → Guarantee s (linkto_ask y) r t → is_carried (reply_kind r) ≡ true
linkto_laid y r s t sound z h m =
    let l = y.location in
    let c : Contents = s.disk.brick y.holder.0 in
    let q = MakeLinkto l.directory l.name (linkto_value (replay_names l.bricks) y.place.brick.0) in
    let new : Slot = with_main (slot c.store (entry_at l)) (main.Linkto (linkto_value (replay_names l.bricks) y.place.brick.0)) in
    ap (λ (x : Reply). is_carried (reply_kind x)) (row_reply s t _ r m z
    ∙ (ap (λ o. reply_in (within (with_store c) o)) (in_dir_there (dir c.store l.directory) _ (holder_housed y s sound h))
    ∙ ap (λ b. reply_in (within (with_store c) (on_slot q c.store (entry_at l) (when b new)))) (holder_vacant y s sound h)))

laid_step :
    (y : Misplaced) (r : Reply) (at : ℕ) (s t : Scene) (v : Bool) → is_carried (reply_kind r) ≡ v
    → fault_of r ≡ None → Served (lookup_stage (LayingLinkto y)) r at s t
    → GoesOn (lookup_stage (LayingLinkto y))
    (lookup_stage (if v then answers_file y.location y.held y.place else LayingLinkto y)) r t
laid_step y r at s t true e z h = laid_answers y r at s t h
laid_step y r at s t false e z h = absurd (exclude (is_carried (reply_kind r)) (linkto_laid y r s t h.before z h.is_at.knows h.moved) e)

linkto_step :
    (y : Misplaced) (r : Reply) (at : ℕ) (s t : Scene) (o : Option Errno) → fault_of r ≡ o
    → Served (lookup_stage (LayingLinkto y)) r at s t
    → GoesOn (lookup_stage (LayingLinkto y)) (lookup_stage (laid_by o y r)) r t
linkto_step y r at s t None z h = laid_step y r at s t (is_carried (reply_kind r)) refl z h
linkto_step y r at s t (Some e) z h =
    laid_closes y (fault_finish e) None r at s t
    (fault_answered y.location e (laid_layout y) t (brick_errors r e z) (fault_earned s t _ r e z h.moved) (linkto_deeds y r s t h.moved ∙ h.is_at.knows.held.held.fresh.deeds)) h

-- ---- the release

abbrev next_release : Release → Release
next_release m = record { scope = m.scope; looks = m.looks; place = m.place - 1 }

release_step :
    (m : Release) (x : Answered) (r : Reply) (t : Scene) (v : Bool) → Answers m x t
    → MatchTurn (if v then Go (next_release m) else Done (memory_of m))
    (λ n. GoesOn (release_stage m) (release_stage n) r t)
    (λ d. EndsIn (release_stage m) (released_ending d) t)
    → Went (lookup_stage (Ending m x)) r t
    (release_turned (if v then Go (next_release m) else Done (memory_of m)) x)
release_step m x r t true is went = part_goes_on (release_stage m) (release_stage (next_release m)) 0 (λ s. Answers m x s) (λ s. Answers (next_release m) x s) r t went (record { right = is.right; scope = is.scope })
release_step m x r t false is went = record { claims = went.claims; earned = (is.right, record { scope = is.scope; can = went.earned }) }

-- what it answers stays right
answers_moved :
    (m : Release) (x : Answered) (r : Reply) (at : ℕ) (s t : Scene)
    → Served (lookup_stage (Ending m x)) r at s t → Answers m x t
answers_moved m x r at s t v =
    let k = v.is_at.knows.1 in
    record {
      right = answered_moved x s t _ r (deeds_quiet s t _ r tt v.moved) (tree_quiet s t _ r tt v.moved) v.moved k.right;
      scope = k.scope;
    }

-- ---- all of it

free_look :
    (x : Sought) (p : Prepared) (stage : Stage) (r : Reply) (at : ℕ) (s t : Scene)
    → stage.asks ≡ look_ask x → stage.claims.locks ≡ [] → x.location.bricks + 6 ≤ stage.variant
    → Seeks x.location p x.brick s → Guarantee s (look_ask x) r t → Served stage r at s t
    → FreeLook x p stage r at s t
free_look x p stage r at s t asks claims variant before moved served = record { asks = asks; claims = claims; variant = variant; before = before; moved = moved; served = served }

pub lookup_moves :
    (m : Lookup) (r : Reply) (at : ℕ) → Moves lookup_stage resolved m r at (lookup_after m r at)
lookup_moves (Surveying l p b ranges) r at s t v = stops _ l None (survey_answered l p b ranges r at) r at s t (fault_of r) refl refl (waits_moved l p s t _ r tt v.is_at.knows.waits v.moved).can.fresh.deeds (λ z. survey_step l p b ranges r at s t z v) v
lookup_moves (LookingAtHolder x p) r at s t v =
    let look = free_look x p (lookup_stage (LookingAtHolder x p)) r at s t refl refl (omega arith) v.is_at.knows v.moved v in
    stops _ x.location x.learned (holder_looked x p r at) r at s t (fault_of r) refl refl (waits_moved x.location p s t _ r tt v.is_at.knows.waits v.moved).can.fresh.deeds
    (λ z. answered_look x p _ (LookingAtHolder x p) (holder_showed x p (shown_as x.location.bricks r) at) r at s t (is_shown r) refl z look (holder_step x p r at s t (shown_as x.location.bricks r) refl look)) v
lookup_moves (FollowingLinkto x p) r at s t v =
    let look = free_look x p (lookup_stage (FollowingLinkto x p)) r at s t refl refl (omega arith) v.is_at.knows v.moved v in
    stops _ x.location x.learned (linked_looked x p r at) r at s t (fault_of r) refl refl (waits_moved x.location p s t _ r tt v.is_at.knows.waits v.moved).can.fresh.deeds
    (λ z. answered_look x p _ (FollowingLinkto x p) (linked_showed x p (shown_as x.location.bricks r) at) r at s t (is_shown r) refl z look (linked_step x p r at s t (shown_as x.location.bricks r) refl look)) v
lookup_moves (LookingEverywhere l m learned) r at s t v =
    let part = part_served (section_stage m) 1 (λ s. Secures l m s) r at s t v in
    section_step l m learned (section_after m r at) r at s t (section_moves m r at s t part) (keeps_scope m r at) (leaves_unlocks m r at s v.is_at.knows.0) (names_gone m r at s v.is_at.knows.0) (notes_fault m r at) v
lookup_moves (LayingLinkto y) r at s t v = linkto_step y r at s t (fault_of r) refl v
lookup_moves (Ending m x) r at s t v =
    let part = part_served (release_stage m) 0 (λ s. Answers m x s) r at s t v in
    release_step m x r t (nat_lt 0 m.place) (answers_moved m x r at s t v) (release_moves m r at s t part)

-- ---- its beginning

first_waits : (l : Location) (s : Scene) → MayLookUp l s → Waits l (prepared_at l) s
first_waits l s h = record {
  scope = refl;
  can = record {
    order = one_ordered l.bricks l.directory Shared l.name;
    fresh = one_fresh l.bricks l.directory Shared l.name s h.count h.home h.deeds;
    room = refl;
  };
}

pub first_knows :
    (l : Location) (known : Option (List (Option Range))) (s : Scene) → MayLookUp l s
    → (lookup_stage (first_lookup l known)).knows s
first_knows l None s h = let there = h.home in record { waits = first_waits l s h; within = omega arith }
first_knows l (Some ranges) s h = (aimed_ready l (prepared_at l) None (holder_in ranges l.name) s (first_waits l s h)).knows

aimed_steps :
    (l : Location) (o : Option ℕ)
    → (lookup_stage (aimed_at l (prepared_at l) None o)).variant ≤ l.bricks + 7
aimed_steps l None = let v = (starts l.bricks l.directory Shared l.name).variant in omega arith
aimed_steps l (Some b) = by (nat_lt b l.bricks)
  where
    by : (v : Bool) → (lookup_stage (if v then LookingAtHolder (record { location = l; brick = record { 0 = b }; learned = None }) (prepared_at l) else LookingEverywhere l (section_at l) None)).variant ≤ l.bricks + 7
    by true = omega arith
    by false = let v = (starts l.bricks l.directory Shared l.name).variant in omega arith

pub first_steps :
    (l : Location) (known : Option (List (Option Range)))
    → (lookup_stage (first_lookup l known)).variant ≤ lookup_steps l known
first_steps l None = omega arith
first_steps l (Some ranges) = aimed_steps l (holder_in ranges l.name)

-- once more, with the memory of one that ended
pub again_ready :
    (p : Prepared) (l : Location) (read : Option (List (Option Range))) (s : Scene) → IsRoom l p s
    → Ready (lookup_again p l read) (lookup_steps l read) s
again_ready p l None s h =
    let home : home l.directory < p.scope.bricks = home_there l p.scope s h.scope h.can.fresh.scope in
    let bricks : p.scope.bricks ≡ l.bricks = ap (λ (w : Scoped). w.bricks) h.scope in
    record { next = []; claims = refl; variant = omega arith; knows = record { waits = h; within = omega arith } }
again_ready p l (Some ranges) s h = aimed_ready l p (Some ranges) (holder_in ranges l.name) s h
