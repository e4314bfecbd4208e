-- What holds of every tree: the first one is so, each step that
-- fits keeps it, and so each tree of a legal transcript is so.
use Rattle.std.proofs.Common.{◌≡◌, ◌≢◌, ℕ, ◌+◌, Bool, true, false, true≢false, ◌||◌, List, [], ◌∷◌, refl, sym, ap, ◌∙◌, subst, arith, if◌then◌else◌}
use Rattle.std.specs.Prelude.{nat_eq, is_some, Option, Some, None}
use Rattle.std.specs.Str.{bytes_eq}
use Rattle.std.proofs.lemmas.Bool.{false_from_ne_true}
use Rattle.std.proofs.lemmas.Slice.Eq.{bytes_eq-Decides}
use Rattle.dht_types.proofs.PutLaws.{put_elim, put_same, put_other, exact_nat, exact_gfid, exact_entry}
use Rattle.dht_types.specs.Put.{put, same_entry}
use Rattle.dht_types.specs.Gfid.{Entry, root, same_gfid}
use Rattle.dht_types.specs.Tree.{Node, IsFile, IsDir, Descent, Tree, of_root, first_tree, depth_in, without_name, IsEmpty, Fits, with_name, less_name, less_dir, descent_at, applied, lists, IsPlaced, IsChild, IsTree}
use Rattle.dht_types.specs.History.{History, Owed, AreTrees, Follows, LegalFrom, start, with_step, with_line, with_lines, history_of}
use Rattle.dht_types.specs.declared.identifiers.Gfid.{Gfid}
use Rattle.dht_types.specs.declared.calls.TreeStep.{TreeStep}
use Rattle.dht_types.specs.declared.calls.TreeStep.TheVariants.{AddFile, AddDir, RemoveFile, RemoveDir}
use Rattle.dht_types.specs.declared.lines.Line.{Line}
use Rattle.dht_types.specs.declared.lines.Line.TheVariants.{Volume, Remounted, Called, Stepped, Waited, Tree as Changed, Answered, WentDown, CameUp, Died, Refused}

-- ---- listings

told_apart : (x y : List ℕ) → x ≢ y → bytes_eq x y ≡ false
told_apart x y ne = false_from_ne_true (bytes_eq x y) (λ h. ne ((bytes_eq-Decides x y).0 h))

lists_first : (n : List ℕ) (xs : List (List ℕ)) → lists n (n ∷ xs) ≡ true
lists_first n xs = ap (λ b. b || lists n xs) ((bytes_eq-Decides n n).1 refl)

lists_more : (n x : List ℕ) (xs : List (List ℕ)) → x ≢ n → lists n (x ∷ xs) ≡ lists n xs
lists_more n x xs ne = ap (λ b. b || lists n xs) (told_apart x n ne)

gone_by :
    (n x : List ℕ) (rest : List (List ℕ)) (b : Bool) → bytes_eq x n ≡ b → lists n rest ≡ false
    → lists n (if b then rest else x ∷ rest) ≡ false
gone_by n x rest true e h = h
gone_by n x rest false e h = ap (λ c. c || lists n rest) e ∙ h

-- a name that is taken out is listed no more
gone : (n : List ℕ) (xs : List (List ℕ)) → lists n (without_name n xs) ≡ false
gone n [] = refl
gone n (x ∷ xs) = gone_by n x (without_name n xs) (bytes_eq x n) refl (gone n xs)

left_by :
    (m n x : List ℕ) (rest old : List (List ℕ)) (b : Bool) → m ≢ n → bytes_eq x n ≡ b
    → lists m rest ≡ lists m old → lists m (if b then rest else x ∷ rest) ≡ lists m (x ∷ old)
left_by m n x rest old true ne e h = h ∙ sym (lists_more m x old (λ q. ne (sym q ∙ (bytes_eq-Decides x n).0 e)))
left_by m n x rest old false ne e h = ap (λ c. bytes_eq x m || c) h

-- and the others are as before
left : (m n : List ℕ) (xs : List (List ℕ)) → m ≢ n → lists m (without_name n xs) ≡ lists m xs
left m n [] ne = refl
left m n (x ∷ xs) ne = left_by m n x (without_name n xs) xs (bytes_eq x n) ne refl (left m n xs ne)

entry_is : (e : Entry) (d : Gfid) (n : List ℕ) → e.0 ≡ d → e.1 ≡ n → e ≡ (d, n)
entry_is e d n h q = λ i. (h i, q i)

-- after a name was added
listed_more :
    (t : Tree) (d : Gfid) (n : List ℕ) (node : Node) → IsTree t → (e : Entry)
    → lists e.1 ((with_name t d n node).listings e.0) ≡ is_some ((with_name t d n node).names e)
listed_more t d n node is e =
    let old = t.listings d in
    put_elim (λ x. lists e.1 (put same_gfid t.listings d (n ∷ old) e.0) ≡ is_some x) same_entry exact_entry t.names (d, n) (Some node) e
    (λ at. put_elim (λ xs. lists e.1 xs ≡ true) same_gfid exact_gfid t.listings d (n ∷ old) e.0
    (λ h. subst (λ (m : List ℕ). lists m (n ∷ old) ≡ true) (sym (ap (λ (x : Entry). x.1) at)) (lists_first n old))
    (λ off. absurd (off (ap (λ (x : Entry). x.0) at))))
    (λ ne. put_elim (λ xs. lists e.1 xs ≡ is_some (t.names e)) same_gfid exact_gfid t.listings d (n ∷ old) e.0
    (λ h. lists_more e.1 n old (λ q. ne (entry_is e d n h (sym q))) ∙ ap (λ (x : Gfid). lists e.1 (t.listings x)) (sym h) ∙ is.listed e)
    (λ off. is.listed e))

-- after a name was taken away
listed_less :
    (t : Tree) (d : Gfid) (n : List ℕ) → IsTree t → (e : Entry)
    → lists e.1 ((less_name t d n).listings e.0) ≡ is_some ((less_name t d n).names e)
listed_less t d n is e =
    let rest = without_name n (t.listings d) in
    put_elim (λ x. lists e.1 (put same_gfid t.listings d rest e.0) ≡ is_some x) same_entry exact_entry t.names (d, n) None e
    (λ at. put_elim (λ xs. lists e.1 xs ≡ false) same_gfid exact_gfid t.listings d rest e.0
    (λ h. subst (λ (m : List ℕ). lists m rest ≡ false) (sym (ap (λ (x : Entry). x.1) at)) (gone n (t.listings d)))
    (λ off. absurd (off (ap (λ (x : Entry). x.0) at))))
    (λ ne. put_elim (λ xs. lists e.1 xs ≡ is_some (t.names e)) same_gfid exact_gfid t.listings d rest e.0
    (λ h. left e.1 n (t.listings d) (λ q. ne (entry_is e d n h q)) ∙ ap (λ (x : Gfid). lists e.1 (t.listings x)) (sym h) ∙ is.listed e)
    (λ off. is.listed e))

-- ---- names and directories

files_differ : (f g : Gfid) → ◌≡◌ {A = Option Node} (Some (IsFile f)) (Some (IsDir g)) → ⊥
files_differ f g e = cc

none_differs : (node : Node) → ◌≡◌ {A = Option Node} None (Some node) → ⊥
none_differs node e = cc

dir_is : (g h : Gfid) → ◌≡◌ {A = Option Node} (Some (IsDir g)) (Some (IsDir h)) → g ≡ h
dir_is g h e = cc

-- where a directory is, and where none is, are two
dirs_differ : (t : Tree) (g h : Gfid) → t.dirs g ≡ true → t.dirs h ≡ false → g ≢ h
dirs_differ t g h on off e = true≢false (sym on ∙ ap t.dirs e ∙ off)

-- what stood stands beside one more
stands_more :
    (t : Tree) (d : Gfid) (n : List ℕ) (node : Node) (e : Entry) (h : Gfid) → t.names (d, n) ≡ None
    → t.names e ≡ Some (IsDir h) → (with_name t d n node).names e ≡ Some (IsDir h)
stands_more t d n node e h free at =
    put_other same_entry exact_entry t.names (d, n) (Some node) e (λ q. none_differs (IsDir h) (sym free ∙ ap t.names (sym q) ∙ at)) ∙ at

-- and where another was taken away
stands_less :
    (t : Tree) (d : Gfid) (n : List ℕ) (e : Entry) (h : Gfid) → t.names (d, n) ≢ Some (IsDir h)
    → t.names e ≡ Some (IsDir h) → (less_name t d n).names e ≡ Some (IsDir h)
stands_less t d n e h other at =
    put_other same_entry exact_entry t.names (d, n) None e (λ q. other (ap t.names (sym q) ∙ at)) ∙ at

-- a directory stands where it stood, if its name does
placed_kept :
    (t u : Tree) (g : Gfid) → u.descents g ≡ t.descents g
    → ((e : Entry) → t.names e ≡ Some (IsDir g) → u.names e ≡ Some (IsDir g)) → IsPlaced t g
    → IsPlaced u g
placed_kept t u g same kept p = record {
  descent = p.descent;
  is = same ∙ p.is;
  shallow = p.shallow;
  stands = λ e at. kept e (p.stands e at);
  rooted = p.rooted;
}

-- a name's directory is as it was
child_kept :
    (t u : Tree) (e : Entry) (g : Gfid) → u.dirs g ≡ true → u.descents g ≡ t.descents g
    → u.descents e.0 ≡ t.descents e.0 → IsChild t e g → IsChild u e g
child_kept t u e g on same above c = record {
  dir = on;
  descent = same ∙ c.descent ∙ ap (λ (x : Option Descent). let y : Descent = record { depth = depth_in x + 1; place = Some e } in Some y) (sym above);
}

-- ---- a file is added

file_added :
    (t : Tree) (d : Gfid) (n : List ℕ) (f : Gfid) → IsTree t → Fits (AddFile d n f) t
    → IsTree (applied (AddFile d n f) t)
file_added t d n f is fits =
    let u = applied (AddFile d n f) t in
    record {
      listed = listed_more t d n (IsFile f) is;
      housed = λ e. put_elim (λ x. is_some x ≡ true → t.dirs e.0 ≡ true) same_entry exact_entry t.names (d, n) (Some (IsFile f)) e
          (λ at some. ap (λ (x : Entry). t.dirs x.0) at ∙ fits.0)
          (λ ne some. is.housed e some);
      placed = λ g on. placed_kept t u g refl (λ e at. stands_more t d n (IsFile f) e g fits.1 at) (is.placed g on);
      child = λ e g. put_elim (λ x. x ≡ Some (IsDir g) → IsChild u e g) same_entry exact_entry t.names (d, n) (Some (IsFile f)) e
          (λ at some. absurd (files_differ f g some))
          (λ ne some. child_kept t u e g (is.child e g some).dir refl refl (is.child e g some));
      rooted = is.rooted;
    }

-- ---- a directory is added

-- each directory is one still
still_dir : (t : Tree) (g h : Gfid) → t.dirs h ≡ true → put same_gfid t.dirs g true h ≡ true
still_dir t g h on = put_elim (λ x. x ≡ true) same_gfid exact_gfid t.dirs g true h (λ e. refl) (λ ne. on)

-- and has the descent that it had
still_made :
    (t : Tree) (d : Gfid) (n : List ℕ) (g h : Gfid) → t.dirs g ≡ false → t.dirs h ≡ true
    → (applied (AddDir d n g) t).descents h ≡ t.descents h
still_made t d n g h off on = put_other same_gfid exact_gfid t.descents g (Some (descent_at t d n)) h (dirs_differ t h g on off)

-- the new one stands where it is made
new_placed :
    (t : Tree) (d : Gfid) (n : List ℕ) (g : Gfid) → Fits (AddDir d n g) t
    → IsPlaced (applied (AddDir d n g) t) g
new_placed t d n g fits =
    let above = fits.1 in
    record {
      descent = descent_at t d n;
      is = put_same same_gfid exact_gfid t.descents g (Some (descent_at t d n));
      shallow = omega arith;
      stands = λ e at. let q : (d, n) ≡ e = cc in
          subst (λ (x : Entry). (with_name t d n (IsDir g)).names x ≡ Some (IsDir g)) q (put_same same_entry exact_entry t.names (d, n) (Some (IsDir g)));
      rooted = λ at. let h : ◌≡◌ {A = Option Entry} (Some (d, n)) None = at in cc;
    }

new_child :
    (t : Tree) (d : Gfid) (n : List ℕ) (g : Gfid) → Fits (AddDir d n g) t
    → IsChild (applied (AddDir d n g) t) (d, n) g
new_child t d n g fits = record {
  dir = put_same same_gfid exact_gfid t.dirs g true;
  descent = put_same same_gfid exact_gfid t.descents g (Some (descent_at t d n))
      ∙ ap (λ (x : Option Descent). let y : Descent = record { depth = depth_in x + 1; place = Some (d, n) } in Some y) (sym (still_made t d n g d fits.3 fits.0));
}

dir_added :
    (t : Tree) (d : Gfid) (n : List ℕ) (g : Gfid) → IsTree t → Fits (AddDir d n g) t
    → IsTree (applied (AddDir d n g) t)
dir_added t d n g is fits =
    let u = applied (AddDir d n g) t in
    record {
      listed = listed_more t d n (IsDir g) is;
      housed = λ e. put_elim (λ x. is_some x ≡ true → u.dirs e.0 ≡ true) same_entry exact_entry t.names (d, n) (Some (IsDir g)) e
          (λ at some. ap (λ (x : Entry). u.dirs x.0) at ∙ still_dir t g d fits.0)
          (λ ne some. still_dir t g e.0 (is.housed e some));
      placed = λ h. put_elim (λ x. x ≡ true → IsPlaced u h) same_gfid exact_gfid t.dirs g true h
          (λ at on. subst (λ (x : Gfid). IsPlaced u x) (sym at) (new_placed t d n g fits))
          (λ ne on. placed_kept t u h (still_made t d n g h fits.3 on) (λ e at. stands_more t d n (IsDir g) e h fits.2 at) (is.placed h on));
      child = λ e h. put_elim (λ x. x ≡ Some (IsDir h) → IsChild u e h) same_entry exact_entry t.names (d, n) (Some (IsDir g)) e
          (λ at some. subst (λ (x : Entry). IsChild u x h) (sym at) (subst (λ (x : Gfid). IsChild u (d, n) x) (dir_is g h some) (new_child t d n g fits)))
          (λ ne some. let c = is.child e h some in
          child_kept t u e h (still_dir t g h c.dir) (still_made t d n g h fits.3 c.dir) (still_made t d n g e.0 fits.3 (is.housed e (ap is_some some))) c);
      rooted = (still_dir t g root is.rooted.0, still_made t d n g root fits.3 is.rooted.0 ∙ is.rooted.1);
    }

-- ---- a file's name is taken away

file_removed :
    (t : Tree) (d : Gfid) (n : List ℕ) → IsTree t → Fits (RemoveFile d n) t
    → IsTree (applied (RemoveFile d n) t)
file_removed t d n is fits =
    let u = applied (RemoveFile d n) t in
    record {
      listed = listed_less t d n is;
      housed = λ e. put_elim (λ x. is_some x ≡ true → t.dirs e.0 ≡ true) same_entry exact_entry t.names (d, n) None e
          (λ at some. absurd (true≢false (sym some)))
          (λ ne some. is.housed e some);
      placed = λ g on. placed_kept t u g refl (λ e at. stands_less t d n e g (λ q. files_differ fits.0 g (sym fits.1 ∙ q)) at) (is.placed g on);
      child = λ e g. put_elim (λ x. x ≡ Some (IsDir g) → IsChild u e g) same_entry exact_entry t.names (d, n) None e
          (λ at some. absurd (none_differs (IsDir g) some))
          (λ ne some. child_kept t u e g (is.child e g some).dir refl refl (is.child e g some));
      rooted = is.rooted;
    }

-- ---- a directory's name is taken away

-- the name at which a directory was made
place_in : Option Descent → Option Entry
place_in None = None
place_in (Some x) = x.place

-- a directory has one name
one_name :
    (t : Tree) (a b : Entry) (g : Gfid) → IsTree t → t.names a ≡ Some (IsDir g)
    → t.names b ≡ Some (IsDir g) → a ≡ b
unfolding place_in
one_name t a b g is at_a at_b =
    let same : Some a ≡ Some b = ap place_in (sym (is.child a g at_a).descent ∙ (is.child b g at_b).descent) in
    cc

-- and the root has none
unnamed_root : (t : Tree) (e : Entry) (g : Gfid) → IsTree t → t.names e ≡ Some (IsDir g) → g ≢ root
unfolding place_in
unnamed_root t e g is at same =
    let none : Some e ≡ None = ap place_in (sym (is.child e g at).descent ∙ ap t.descents same ∙ is.rooted.1) in
    cc

-- an empty directory has no name within
not_within : (t : Tree) (g : Gfid) (e : Entry) → IsEmpty t g → is_some (t.names e) ≡ true → e.0 ≢ g
not_within t g e empty some at =
    let none : t.names e ≡ None = subst (λ (x : Gfid). t.names (x, e.1) ≡ None) (sym at) (empty e.1) in
    true≢false (sym some ∙ ap is_some none)

other_dir :
    (t : Tree) (g h : Gfid) → h ≢ g → t.dirs h ≡ true → put same_gfid t.dirs g false h ≡ true
other_dir t g h ne on = put_other same_gfid exact_gfid t.dirs g false h ne ∙ on

-- the tree without a directory's name and the directory
abbrev without_dir : Tree → Gfid → List ℕ → Gfid → Tree
without_dir t d n g = record (less_name t d n) { dirs = put same_gfid t.dirs g false }

dir_gone :
    (t : Tree) (d : Gfid) (n : List ℕ) (g : Gfid) → IsTree t → t.names (d, n) ≡ Some (IsDir g)
    → IsEmpty t g → IsTree (without_dir t d n g)
dir_gone t d n g is stood empty =
    let u = without_dir t d n g in
    record {
      listed = listed_less t d n is;
      housed = λ e. put_elim (λ x. is_some x ≡ true → u.dirs e.0 ≡ true) same_entry exact_entry t.names (d, n) None e
          (λ at some. absurd (true≢false (sym some)))
          (λ ne some. other_dir t g e.0 (not_within t g e empty some) (is.housed e some));
      placed = λ h. put_elim (λ x. x ≡ true → IsPlaced u h) same_gfid exact_gfid t.dirs g false h
          (λ at on. absurd (true≢false (sym on)))
          (λ ne on. placed_kept t u h refl (λ e at. stands_less t d n e h (λ q. ne (dir_is h g (sym q ∙ stood))) at) (is.placed h on));
      child = λ e h. put_elim (λ x. x ≡ Some (IsDir h) → IsChild u e h) same_entry exact_entry t.names (d, n) None e
          (λ at some. absurd (none_differs (IsDir h) some))
          (λ ne some. let other : h ≢ g = λ q. ne (one_name t e (d, n) g is (some ∙ ap (λ (x : Gfid). Some (IsDir x)) q) stood) in
          child_kept t u e h (other_dir t g h other (is.child e h some).dir) refl refl (is.child e h some));
      rooted = (other_dir t g root (λ q. unnamed_root t (d, n) g is stood (sym q)) is.rooted.0, is.rooted.1);
    }

dir_removed :
    (t : Tree) (d : Gfid) (n : List ℕ) → IsTree t → Fits (RemoveDir d n) t
    → IsTree (applied (RemoveDir d n) t)
dir_removed t d n is fits =
    subst (λ (node : Option Node). IsTree (record (less_name t d n) { dirs = less_dir t.dirs node })) (sym fits.1) (dir_gone t d n fits.0 is fits.1 fits.2)

-- ---- every step

pub fits_keeps_tree :
    (t : Tree) (step : TreeStep) → IsTree t → Fits step t → IsTree (applied step t)
fits_keeps_tree t (AddFile d n f) is fits = file_added t d n f is fits
fits_keeps_tree t (AddDir d n g) is fits = dir_added t d n g is fits
fits_keeps_tree t (RemoveFile d n) is fits = file_removed t d n is fits
fits_keeps_tree t (RemoveDir d n) is fits = dir_removed t d n is fits

-- the first tree has the root, and no name
root_alone : (g : Gfid) → same_gfid g root ≡ true → IsPlaced first_tree g
root_alone g is_root = record {
  descent = of_root;
  is = ap (λ (b : Bool). if b then Some of_root else None) is_root;
  shallow = omega arith;
  stands = λ e at. let none : ◌≡◌ {A = Option Entry} None (Some e) = at in cc;
  rooted = λ at. (exact_gfid g root).0 is_root;
}

pub first_is_tree : IsTree first_tree
first_is_tree = record {
  listed = λ e. refl;
  housed = λ e some. absurd (true≢false (sym some));
  placed = root_alone;
  child = λ e g at. absurd (none_differs (IsDir g) at);
  rooted = (refl, refl);
}

-- ---- what the listings say

none_listed : (xs : List (List ℕ)) → ((n : List ℕ) → lists n xs ≡ false) → xs ≡ []
none_listed [] none = refl
none_listed (x ∷ xs) none = absurd (true≢false (sym (lists_first x xs) ∙ none x))

none_there : (x : Option Node) → is_some x ≡ false → x ≡ None
none_there None e = refl
none_there (Some node) e = absurd (true≢false e)

-- a directory in which no name stands has none listed
pub empty_listing : (t : Tree) (d : Gfid) → IsTree t → IsEmpty t d → t.listings d ≡ []
empty_listing t d is empty = none_listed (t.listings d) (λ n. is.listed (d, n) ∙ ap is_some (empty n))

-- and none stands in it where none is listed
pub unlisted_empty : (t : Tree) (d : Gfid) → IsTree t → t.listings d ≡ [] → IsEmpty t d
unlisted_empty t d is none n =
    none_there (t.names (d, n)) (sym (is.listed (d, n)) ∙ ap (lists n) none)

one_listed :
    (n : List ℕ) (xs : List (List ℕ)) → lists n xs ≡ true
    → (x : List ℕ) × (rest : List (List ℕ)) × (xs ≡ x ∷ rest)
one_listed n [] listed = absurd (true≢false (sym listed))
one_listed n (x ∷ xs) listed = (x, xs, refl)

-- where a name stands, there is one
pub full_listing :
    (t : Tree) (d : Gfid) (n : List ℕ) (node : Node) → IsTree t → t.names (d, n) ≡ Some node
    → (x : List ℕ) × (rest : List (List ℕ)) × (t.listings d ≡ x ∷ rest)
full_listing t d n node is at = one_listed n (t.listings d) (is.listed (d, n) ∙ ap is_some at)

-- ---- transcripts

step_tree :
    (s : History) (step : TreeStep) (o a : Option Owed)
    → (with_step s step o a).tree ≡ applied step s.tree
step_tree s step None None = refl
step_tree s step None (Some a) = refl
step_tree s step (Some o) a = refl

-- a line that may come next leaves a tree
pub line_keeps_tree :
    (s : History) (line : Line) → IsTree s.tree → Follows s line → IsTree (with_line s line).tree
line_keeps_tree s (Volume w) is f = is
line_keeps_tree s (Remounted w) is f = is
line_keeps_tree s (Called k c call) is f = is
line_keeps_tree s (Stepped k c b q r) is f = is
line_keeps_tree s (Waited k c b h) is f = is
line_keeps_tree s (Changed k step) is f =
    subst IsTree (sym (step_tree s step s.owed s.allowed)) (fits_keeps_tree s.tree step is f.5.3)
line_keeps_tree s (Answered k c j a) is f = is
line_keeps_tree s (WentDown b) is f = is
line_keeps_tree s (CameUp b) is f = is
line_keeps_tree s (Died c) is f = is
line_keeps_tree s (Refused n cause) is f = is

past_kept :
    (s : History) (line : Line) → IsTree (with_line s line).tree → ((j : ℕ) → IsTree (s.past j))
    → (j : ℕ) → IsTree ((with_line s line).past j)
past_kept s line is past j =
    put_elim IsTree nat_eq exact_nat s.past (s.size + 1) (with_line s line).tree j (λ e. is) (λ ne. past j)

trees_from :
    (s : History) (lines : List Line) → AreTrees s → LegalFrom s lines
    → AreTrees (with_lines s lines)
trees_from s [] are legal = are
trees_from s (line ∷ lines) are legal =
    let now = line_keeps_tree s line are.now legal.0 in
    trees_from (with_line s line) lines (record { now = now; past = past_kept s line now are.past }) legal.1

pub legal_trees : (lines : List Line) → LegalFrom start lines → AreTrees (history_of lines)
legal_trees lines legal =
    trees_from start lines (record { now = first_is_tree; past = λ j. first_is_tree }) legal
