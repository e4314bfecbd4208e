-- The requests of a first lookup that finds its file before it asks for any lock.
use Rattle.std.proofs.Common.{◌≡◌, ◌<◌, ◌≤◌, ◌+◌, ◌-◌, ℕ, Bool, true, false, List, [], ◌∷◌, ◌++◌, length, refl, sym, ◌∙◌, ap, arith, length-append}
use Rattle.std.specs.Prelude.{Option, Some, None, nat_lt, nat_le, if◌then◌else◌}
use Rattle.std.proofs.lemmas.Bool.Decides.{nat_tests}
use Rattle.std.proofs.lemmas.List.{append_assoc, length-map}
use Rattle.dht_types.specs.declared.errors.Errno.{Errno}
use Rattle.dht_types.specs.declared.stored.Main.TheVariants as main
use Rattle.dht_hash.specs.DaviesMeyer.{dm}
use Rattle.dht_xattr.proofs.LayoutLaws.{holder_within}
use Rattle.dht_xattr.specs.declared.range.Range.{Range}
use Rattle.dht_section.specs.Looks.{lengthened}
use Rattle.dht_section.specs.Replies.{fault_of, is_shown, range_shown}
use Rattle.dht_section.specs.Section.{begun, shows_gone}
use Rattle.dht_section.specs.declared.location.Location.{Location}
use Rattle.dht_section.specs.declared.machine.Turn.{Turn}
use Rattle.dht_section.specs.declared.machine.Turn.TheVariants.{Go, Done}
use Rattle.dht_resolve.proofs.LookupNotes.{file_main, holder_found, linked_found, main_of}
use Rattle.dht_resolve.specs.Found.{leads_to}
use Rattle.dht_resolve.specs.Lookup.{aimed, aimed_at, first_lookup, holder_in}
use Rattle.dht_section.specs.Location.{prepared_at}
use Rattle.dht_resolve.specs.Short.{AllRead, FindsAtHolder, FindsByLinkto, IsRead, IsSurvey, Told, after_all, ranges_read}
use Rattle.dht_resolve.specs.Turns.{gone, holder_showed, lookup_after, surveyed, unless_fault}
use Rattle.dht_resolve.specs.declared.lookup.Lookup.{Lookup}
use Rattle.dht_resolve.specs.declared.lookup.Lookup.TheVariants.{Surveying, LookingAtHolder, LookingEverywhere}
use Rattle.dht_resolve.specs.declared.lookup.Resolved.{Resolved}
use Rattle.dht_resolve.specs.declared.lookup.Sought.{Sought}
use Rattle.dht_section.specs.declared.section.Prepared.{Prepared}

-- replies in two parts
after_parts :
    (turn : Turn Lookup Resolved) (xs ys : List Told)
    → after_all turn (xs ++ ys) ≡ after_all (after_all turn xs) ys
after_parts (Done d) xs ys = refl
after_parts (Go m) [] ys = refl
after_parts (Go m) (x ∷ xs) ys = after_parts (lookup_after m x.0 x.1) xs ys

-- ---- the survey

answered_by :
    (l : Location) (o : Option Errno) (g v : Bool) (turn : Turn Lookup Resolved) (again : Lookup)
    (at : ℕ)
    → o ≡ None → g ≡ false → v ≡ true
    → unless_fault o l None (if g then gone l at None else (if v then turn else Go again)) ≡ turn
answered_by l None false true turn again at z e k = refl
answered_by l None false false turn again at z e k = absurd (let q : false ≡ true = k in cc)
answered_by l None true v turn again at z e k = absurd (let q : true ≡ false = e in cc)
answered_by l (Some x) g v turn again at z e k = absurd (let q : Some x ≡ None = z in cc)

read_step :
    (l : Location) (p : Prepared) (b : ℕ) (done : List (Option Range)) (x : Told) → IsRead l b x.0
    → lookup_after (Surveying l p (record { 0 = b }) done) x.0 x.1
    ≡ Go (surveyed l p (record { 0 = b }) (lengthened done (range_shown x.0)))
read_step l p b done x h = answered_by l (fault_of x.0) (shows_gone l.directory (record { 0 = b }) x.0) (is_shown x.0) (Go (surveyed l p (record { 0 = b }) (lengthened done (range_shown x.0)))) (Surveying l p (record { 0 = b }) done) x.1 h.sound h.there h.shown

longer :
    (done : List (Option Range)) (range : Option Range) → length done < 32
    → lengthened done range ≡ done ++ range ∷ []
longer done range h = by (nat_lt (length done) 32) refl
  where
    by : (v : Bool) → nat_lt (length done) 32 ≡ v → (if v then done ++ range ∷ [] else done) ≡ done ++ range ∷ []
    by true e = refl
    by false e = absurd (grind (arith, nat_tests, h, e))

last_read :
    (l : Location) (p : Prepared) (b : ℕ) (ranges : List (Option Range)) → b + 1 ≡ l.bricks
    → surveyed l p (record { 0 = b }) ranges ≡ aimed l p (Some ranges) ranges
last_read l p b ranges e = by (nat_le (l.bricks - b) 1) refl
  where
    by : (v : Bool) → nat_le (l.bricks - b) 1 ≡ v → (if v then aimed l p (Some ranges) ranges else Surveying l p (record { 0 = b + 1 }) ranges) ≡ aimed l p (Some ranges) ranges
    by true k = refl
    by false k = absurd (grind (arith, nat_tests, e, k))

next_read :
    (l : Location) (p : Prepared) (b : ℕ) (ranges : List (Option Range)) → b + 1 < l.bricks
    → surveyed l p (record { 0 = b }) ranges ≡ Surveying l p (record { 0 = b + 1 }) ranges
next_read l p b ranges e = by (nat_le (l.bricks - b) 1) refl
  where
    by : (v : Bool) → nat_le (l.bricks - b) 1 ≡ v → (if v then aimed l p (Some ranges) ranges else Surveying l p (record { 0 = b + 1 }) ranges) ≡ Surveying l p (record { 0 = b + 1 }) ranges
    by true k = absurd (grind (arith, nat_tests, e, k))
    by false k = refl

-- after the replies of all bricks from this one on
all_read :
    (l : Location) (p : Prepared) (b : ℕ) (done : List (Option Range)) (x : Told) (xs : List Told)
    → b + length (x ∷ xs) ≡ l.bricks → length done ≡ b → l.bricks ≤ 32 → AllRead l b (x ∷ xs)
    → after_all (Go (Surveying l p (record { 0 = b }) done)) (x ∷ xs)
    ≡ Go (aimed l p (Some (done ++ ranges_read (x ∷ xs))) (done ++ ranges_read (x ∷ xs)))
all_read l p b done x [] count room few h =
    ap (λ turn. after_all turn [])
    (read_step l p b done x h.0
    ∙ (ap Go (last_read l p b (lengthened done (range_shown x.0)) (omega arith))
    ∙ ap (λ (ranges : List (Option Range)). Go (aimed l p (Some ranges) ranges)) (longer done (range_shown x.0) (omega arith))))
all_read l p b done x (y ∷ ys) count room few h =
    let more = longer done (range_shown x.0) (omega arith) in
    let size = length-append done (range_shown x.0 ∷ []) in
    ap (λ turn. after_all turn (y ∷ ys))
    (read_step l p b done x h.0
    ∙ ap Go (next_read l p b (lengthened done (range_shown x.0)) (omega arith)
    ∙ ap (λ (ranges : List (Option Range)). Surveying l p (record { 0 = b + 1 }) ranges) more))
    ∙ (all_read l p (b + 1) (done ++ range_shown x.0 ∷ []) y ys (omega arith) (omega arith) few h.1
    ∙ ap (λ (ranges : List (Option Range)). Go (aimed l p (Some ranges) ranges)) (append_assoc done (range_shown x.0 ∷ []) (ranges_read (y ∷ ys))))

-- the holder is looked at next
abbrev sought : Location → List Told → ℕ → Sought
sought l xs b = record { location = l; brick = record { 0 = b }; learned = Some (ranges_read xs) }

aimed_found :
    (l : Location) (p : Prepared) (learned : Option (List (Option Range))) (o : Option ℕ) (b : ℕ)
    → o ≡ Some b → b < l.bricks
    → aimed_at l p learned o
    ≡ LookingAtHolder (record { location = l; brick = record { 0 = b }; learned = learned }) p
aimed_found l p learned o b e within = ap (aimed_at l p learned) e ∙ by (nat_lt b l.bricks) refl
  where
    by : (v : Bool) → nat_lt b l.bricks ≡ v → (if v then LookingAtHolder (record { location = l; brick = record { 0 = b }; learned = learned }) p else LookingEverywhere l (begun p) learned) ≡ LookingAtHolder (record { location = l; brick = record { 0 = b }; learned = learned }) p
    by true k = refl
    by false k = absurd (grind (arith, nat_tests, within, k))

surveys :
    (l : Location) (xs : List Told) (b : ℕ) → IsSurvey l xs b
    → after_all (Go (first_lookup l None)) xs ≡ Go (LookingAtHolder (sought l xs b) (prepared_at l))
surveys l [] b h = absurd (let none : ◌≡◌ {A = Option ℕ} None (Some b) = h.holds in cc)
surveys l (x ∷ xs) b h =
    let each = h.each in
    let size : length (ranges_read (x ∷ xs)) ≡ length (x ∷ xs) = length-map (x ∷ xs) (λ (y : Told). range_shown y.0) in
    let within = holder_within (ranges_read (x ∷ xs)) (dm l.name) b h.holds in
    all_read l (prepared_at l) 0 [] x xs (omega arith) refl h.few h.read
    ∙ ap Go (aimed_found l (prepared_at l) (Some (ranges_read (x ∷ xs))) (holder_in (ranges_read (x ∷ xs)) l.name) b h.holds (omega arith))

-- ---- the looks

pub at_holder : FindsAtHolder
at_holder l xs b f look at h e =
    let q = main_of _ f (sym (file_main look) ∙ e) in
    after_parts (Go (first_lookup l None)) xs ((look, at) ∷ [])
    ∙ (ap (λ turn. after_all turn ((look, at) ∷ [])) (surveys l xs b h)
    ∙ ap (λ turn. after_all turn []) (holder_found (sought l xs b) (prepared_at l) (main.File f q.0) look at q.1))

pub by_linkto : FindsByLinkto
by_linkto l xs b c value f link look i at h linked leads e =
    let q = main_of _ f (sym (file_main look) ∙ e) in
    after_parts (Go (first_lookup l None)) xs ((link, i) ∷ (look, at) ∷ [])
    ∙ (ap (λ turn. after_all turn ((link, i) ∷ (look, at) ∷ [])) (surveys l xs b h)
    ∙ (ap (λ turn. after_all turn ((look, at) ∷ []))
    (holder_found (sought l xs b) (prepared_at l) (main.Linkto value) link i linked
    ∙ ap (λ (o : Option ℕ). holder_showed (sought l xs b) (prepared_at l) (leads_to o) i) leads)
    ∙ ap (λ turn. after_all turn []) (linked_found (sought l xs c) (prepared_at l) (main.File f q.0) look at q.1)))
