-- What is known of each name of a section that is held.
use Rattle.std.proofs.Common.{◌≡◌, ◌<◌, ◌+◌, ℕ, Bool, true, false, refl, sym, ◌∙◌, ap, subst, arith, List, [], ◌∷◌, cond}
use Rattle.std.specs.Prelude.{zero, suc, not, nat_lt, Option, Some, None, length, Contains, slice_index_or, position}
use Rattle.std.specs.List.{position_or_len}
use Rattle.std.proofs.lemmas.Bool.Decides.{nat_tests}
use Rattle.std.proofs.lemmas.List.Quantifiers.{position-Some}
use Rattle.dht_types.proofs.PutLaws.{exact_entry}
use Rattle.dht_types.specs.Gfid.{Entry, root, home}
use Rattle.dht_types.specs.Linkto.{linked_brick}
use Rattle.dht_types.specs.Volume.{replay_names}
use Rattle.dht_types.specs.declared.stored.Main.{Main}
use Rattle.dht_types.specs.declared.stored.Main.TheVariants.{Dir, File, Linkto}
use Rattle.dht_brick.specs.Parts.{is_linkto}
use Rattle.dht_section.proofs.LayoutLaws.{read_holder, root_holder, root_copied}
use Rattle.dht_section.proofs.SectionLooks.{read_whole}
use Rattle.dht_section.specs.Disk.{slot_at, holder_of}
use Rattle.dht_section.specs.Looks.{IsNoDir, file_in, looked_at, mark_at, leads_to, linkto_in, linkto_at, has_linkto}
use Rattle.dht_section.specs.Scene.{Scene, Sound, NameStands}
use Rattle.dht_section.specs.Section.{IsHeld, IsLooked, Shown, ShownOf, StandsSeen, found_shape, IsWanted, held_looked, held_holder, looked_of}
use Rattle.dht_section.specs.SectionLaws.{bricks_are}
use Rattle.dht_section.specs.Want.{Scoped, name_at, place_of, is_name}
use Rattle.dht_section.specs.declared.looks.Looked.{Looked}
use Rattle.dht_section.specs.declared.looks.Sight.{Sight}
use Rattle.dht_section.specs.declared.looks.What.{What}
use Rattle.dht_section.specs.declared.looks.What.TheVariants.{Absent, Dir as Directory, File as AFile}
use Rattle.dht_section.specs.declared.section.Held.{Held}

-- a test that passes somewhere has a first place
first_passes :
    {A : Type 0} (p : A → Bool) (xs : List A) (i : ℕ) (d : A) → i < length xs
    → p (slice_index_or xs i d) ≡ true → position_or_len p xs < length xs
first_passes p [] i d l h = absurd (omega arith)
first_passes p (x ∷ xs) zero d l h = subst (λ (b : Bool). cond (not b) (1 + position_or_len p xs) 0 < length (x ∷ xs)) (sym h) (omega arith)
first_passes p (x ∷ xs) (suc i) d l h = by (p x) (first_passes p xs i d (omega arith) h)
  where
    by : (b : Bool) → position_or_len p xs < length xs → cond (not b) (1 + position_or_len p xs) 0 < length (x ∷ xs)
    by true k = omega arith
    by false k = omega arith

has_position :
    {A : Type 0} (p : A → Bool) (xs : List A) → position_or_len p xs < length xs
    → position p xs ≡ Some (position_or_len p xs)
has_position p xs l = ap (λ (b : Bool). cond b (Some (position_or_len p xs)) None) (let e : nat_lt (position_or_len p xs) (length xs) ≡ true = grind (arith, nat_tests, l) in e)

-- the place of a name that was wanted
pub record Placed (w : Scoped) (e : Entry) : Type 0 where
  pub place : ℕ
  pub is : place_of w e ≡ Some place
  pub within : place < length w.names
  pub name : name_at w place ≡ e

pub place_is : (w : Scoped) (e : Entry) → Contains w.names e → Placed w e
place_is w e h =
    let l = first_passes (is_name e) w.names h.0 e h.1 (ap (is_name e) h.2 ∙ (exact_entry e e).1 refl) in
    let n = position_or_len (is_name e) w.names in
    let is = has_position (is_name e) w.names l in
    let q = position-Some (is_name e) w.names n _ is in
    record { place = n; is = is; within = q.0; name = (exact_entry (name_at w n) e).0 q.1 }

pub found_is :
    (h : Held) (e : Entry) (s : Scene) → IsHeld h s → IsWanted h e
    → IsLooked h.scope.bricks e (held_looked h e) s
found_is h e s k c =
    let p = place_is h.scope e c in
    subst (λ (x : Looked). IsLooked h.scope.bricks e x s) (sym (ap (λ (o : Option ℕ). looked_of o h.looks) p.is))
    (subst (λ (x : Entry). IsLooked h.scope.bricks x (looked_at h.looks p.place) s) p.name (k.looked p.place p.within))

whole_read :
    (h : Held) (e : Entry) (s : Scene) → Sound s → (k : IsHeld h s)
    → IsLooked h.scope.bricks e (held_looked h e) s
    → length (held_looked h e).sight.layout ≡ s.disk.count
whole_read h e s sound k x = x.whole ∙ sym (bricks_are h.scope s sound k.fresh.scope)

-- the brick that holds a name by what was read holds it
pub holder_is :
    (h : Held) (e : Entry) (b : ℕ) (s : Scene) → Sound s → IsHeld h s → IsWanted h e
    → held_holder h e ≡ Some b → holder_of s.disk e ≡ Some b
holder_is h e b s sound k c q =
    let x = found_is h e s k c in
    read_holder e (held_looked h e).sight b s sound (whole_read h e s sound k x) x.read q

-- of a name in the root, all of its layout was read, and each brick has its copy
pub root_holder_is :
    (h : Held) (e : Entry) (s : Scene) → Sound s → IsHeld h s → IsWanted h e → e.0 ≡ root
    → held_holder h e ≡ holder_of s.disk e
root_holder_is h e s sound k c rooted =
    let x = found_is h e s k c in
    root_holder e (held_looked h e).sight s rooted (whole_read h e s sound k x) x.read

pub root_is_copied :
    (h : Held) (e : Entry) (b : ℕ) (s : Scene) → IsHeld h s → IsWanted h e → e.0 ≡ root
    → b < h.scope.bricks → mark_at (held_looked h e).sight.copies b ≡ true
root_is_copied h e b s k c rooted l =
    let x = found_is h e s k c in
    let whole = x.whole in
    root_copied (held_looked h e).sight b e.0 s rooted (omega arith) x.read

-- the directory of a name is one of the tree
pub directory_is :
    (h : Held) (e : Entry) (s : Scene) → Sound s → IsHeld h s → IsWanted h e
    → s.history.tree.dirs e.0 ≡ true
directory_is h e s sound k c =
    let x = found_is h e s k c in
    let p = place_is h.scope e c in
    let there = k.fresh.scope.homes p.place p.within in
    let home_there : home e.0 < h.scope.bricks = subst (λ (y : Entry). home y.0 < h.scope.bricks) p.name there in
    let whole = x.whole in
    read_whole e.0 (held_looked h e).sight s sound (omega arith) x.read

-- a brick of which a linkto was seen has one at the name
linkto_known : (bricks : ℕ) (m : Option Main) → has_linkto (linkto_in bricks m) ≡ is_linkto m
linkto_known bricks None = refl
linkto_known bricks (Some (Dir g)) = refl
linkto_known bricks (Some (File f over)) = refl
linkto_known bricks (Some (Linkto value)) = known (linked_brick (replay_names bricks) value)
  where
    known : (o : Option ℕ) → has_linkto (leads_to o) ≡ true
    known None = refl
    known (Some b) = refl

-- of a name that is no directory's all was shown
pub shown_of_file :
    (e : Entry) (what : What) (x : Sight) (limit : ℕ) (s : Scene) → IsNoDir what
    → ShownOf what e x limit s → Shown e x limit s
shown_of_file e Absent x limit s k h = h
shown_of_file e (Directory g) x limit s k h = absurd k
shown_of_file e (AFile f b links) x limit s k h = h

-- and it stands as the file that was found, or nowhere
pub stands_found :
    (e : Entry) (what : What) (s : Scene) → IsNoDir what → StandsSeen e what s
    → NameStands s e (found_shape (file_in what))
stands_found e Absent s k h = h
stands_found e (Directory g) s k h = absurd k
stands_found e (AFile f b links) s k h = h

pub linkto_is :
    (h : Held) (e : Entry) (b : ℕ) (s : Scene) → IsHeld h s → IsWanted h e
    → IsNoDir (held_looked h e).sight.what → b < h.scope.bricks
    → has_linkto (linkto_at (held_looked h e).sight.linktos b) ≡ is_linkto (slot_at s.disk b e).main
linkto_is h e b s k c plain l =
    let x = held_looked h e in
    let shown = shown_of_file e x.sight.what x.sight h.scope.bricks s plain (found_is h e s k c).shown in
    ap has_linkto (shown.bricks b l).linkto ∙ linkto_known (length s.history.weights) (slot_at s.disk b e).main
