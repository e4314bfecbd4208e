-- The directory tree, its steps, and what it says to a call. Nothing here speaks of bricks.
use Rattle.std.specs.Prelude.{ℕ, ◌+◌, ◌<◌, ◌≤◌, ◌≡◌, ◌||◌, nat_eq, Bool, true, false, if◌then◌else◌, is_some, Option, Some, None, List, [], ◌∷◌}
use Rattle.std.specs.Str.{bytes_eq}
use Rattle.dht_types.specs.Put.{put, same_entry}
use Rattle.dht_types.specs.Gfid.{Entry, root, same_gfid}
use Rattle.dht_types.specs.declared.identifiers.Gfid.{Gfid}
use Rattle.dht_types.specs.declared.errors.Errno.{Errno}
use Rattle.dht_types.specs.declared.errors.Errno.TheVariants.{Enoent, Eexist, Enametoolong, Enotdir, Eisdir, Enotempty, Estale}
use Rattle.dht_types.specs.declared.calls.Call.{Call}
use Rattle.dht_types.specs.declared.calls.Call.TheVariants.{Lookup, Create, Mkdir, Unlink, Rmdir, Heal}
use Rattle.dht_types.specs.declared.calls.Answer.{Answer}
use Rattle.dht_types.specs.declared.calls.Answer.TheVariants.{Dir, File, Made, Done, Fault}
use Rattle.dht_types.specs.declared.calls.TreeStep.{TreeStep}
use Rattle.dht_types.specs.declared.calls.TreeStep.TheVariants.{AddFile, AddDir, RemoveFile, RemoveDir}

-- what a name stands for
pub data Node : Type 0 where
  IsFile : Gfid → Node
  IsDir : Gfid → Node

-- where a directory was made: how many names lead to it from the root, and the name at which it
-- stands, if it is not the root; it never moves
pub record Descent : Type 0 where
  pub depth : ℕ
  pub place : Option Entry

-- a directory tree: what each name of a directory stands for, its directories,
-- and the bytes of its files. Beside these stands what follows of them: the names
-- that each directory has, and the descent of each directory that there ever was
pub record Tree : Type 0 where
  pub names : Entry → Option Node
  pub dirs : Gfid → Bool
  pub bytes : Gfid → Option (List ℕ)
  pub listings : Gfid → List (List ℕ)
  pub descents : Gfid → Option Descent

-- the descent of the root
abbrev pub of_root : Descent
of_root = record { depth = 0; place = None }

-- the root and nothing else
abbrev pub first_tree : Tree
first_tree = record {
  names = λ e. None;
  dirs = λ g. same_gfid g root;
  bytes = λ f. None;
  listings = λ d. [];
  descents = λ g. if same_gfid g root then Some of_root else None;
}

-- how deep a directory is at most
abbrev pub deepest : ℕ
deepest = 64

-- how deep a directory is
abbrev pub depth_in : Option Descent → ℕ
depth_in None = 0
depth_in (Some x) = x.depth

abbrev pub depth_of : Tree → Gfid → ℕ
depth_of t d = depth_in (t.descents d)

-- the names without this one
abbrev pub without_name : List ℕ → List (List ℕ) → List (List ℕ)
without_name n [] = []
without_name n (x ∷ xs) = if bytes_eq x n then without_name n xs else x ∷ without_name n xs

-- no name stands in the directory
abbrev pub IsEmpty : Tree → Gfid → Type 0
IsEmpty t d = (n : List ℕ) → t.names (d, n) ≡ None

-- the step can be done on the tree
abbrev pub Fits : TreeStep → Tree → Type 0
Fits (AddFile d n f) t = (t.dirs d ≡ true) × (t.names (d, n) ≡ None) × (t.bytes f ≡ None)
Fits (AddDir d n g) t =
    (t.dirs d ≡ true) × (depth_of t d < deepest) × (t.names (d, n) ≡ None) × (t.dirs g ≡ false)
Fits (RemoveFile d n) t = (f : Gfid) × (t.names (d, n) ≡ Some (IsFile f))
Fits (RemoveDir d n) t = (g : Gfid) × (t.names (d, n) ≡ Some (IsDir g)) × IsEmpty t g

-- a name more, or less
abbrev pub with_name : Tree → Gfid → List ℕ → Node → Tree
with_name t d n node = record t {
  names = put same_entry t.names (d, n) (Some node);
  listings = put same_gfid t.listings d (n ∷ t.listings d);
}

abbrev pub less_name : Tree → Gfid → List ℕ → Tree
less_name t d n = record t {
  names = put same_entry t.names (d, n) None;
  listings = put same_gfid t.listings d (without_name n (t.listings d));
}

-- the directories, where this name's is none any more
abbrev pub less_dir : (Gfid → Bool) → Option Node → Gfid → Bool
less_dir dirs None = dirs
less_dir dirs (Some (IsFile f)) = dirs
less_dir dirs (Some (IsDir g)) = put same_gfid dirs g false

-- the descent of a directory that is made at this name
abbrev pub descent_at : Tree → Gfid → List ℕ → Descent
descent_at t d n = record { depth = depth_of t d + 1; place = Some (d, n) }

-- the tree after the step
abbrev pub applied : TreeStep → Tree → Tree
applied (AddFile d n f) t =
    record (with_name t d n (IsFile f)) { bytes = put same_gfid t.bytes f (Some []) }
applied (AddDir d n g) t = record (with_name t d n (IsDir g)) {
  dirs = put same_gfid t.dirs g true;
  descents = put same_gfid t.descents g (Some (descent_at t d n));
}
applied (RemoveFile d n) t = less_name t d n
applied (RemoveDir d n) t =
    record (less_name t d n) { dirs = less_dir t.dirs (t.names (d, n)) }

-- what a tree says to a call: that it is refused; to say this
-- answer; or to do these steps, in order, and then say it
pub data Said : Type 0 where
  Refuse : Errno → Said
  Say : Answer → Said
  Do : List TreeStep → Answer → Said

abbrev pub looked_up : Option Node → Said
looked_up None = Refuse Enoent
looked_up (Some (IsFile f)) = Say (File f)
looked_up (Some (IsDir g)) = Say (Dir g)

abbrev pub created : Gfid → List ℕ → Gfid → Option Node → Said
created d n g None = Do (AddFile d n g ∷ []) (Made g)
created d n g (Some node) = Refuse Eexist

abbrev pub made_within : Gfid → List ℕ → Gfid → Option Node → Said
made_within d n g None = Do (AddDir d n g ∷ []) (Made g)
made_within d n g (Some node) = Refuse Eexist

-- a directory that is as deep as may be has none within
abbrev pub made_dir : ℕ → Gfid → List ℕ → Gfid → Option Node → Said
made_dir depth d n g node =
    if nat_eq depth deepest then Refuse Enametoolong else made_within d n g node

abbrev pub unlinked : Gfid → List ℕ → Option Node → Said
unlinked d n None = Refuse Enoent
unlinked d n (Some (IsFile f)) = Do (RemoveFile d n ∷ []) Done
unlinked d n (Some (IsDir g)) = Refuse Eisdir

-- a directory in which these names stand
abbrev pub removed_dir : Gfid → List ℕ → List (List ℕ) → Said
removed_dir d n [] = Do (RemoveDir d n ∷ []) Done
removed_dir d n (x ∷ xs) = Refuse Enotempty

abbrev pub removed : Tree → Gfid → List ℕ → Option Node → Said
removed t d n None = Refuse Enoent
removed t d n (Some (IsFile f)) = Refuse Enotdir
removed t d n (Some (IsDir g)) = removed_dir d n (t.listings g)

-- what the tree says to a call that would make the gfid g
abbrev pub says : Tree → Call Gfid → Gfid → Said
says t (Lookup d n) g = if t.dirs d then looked_up (t.names (d, n)) else Refuse Estale
says t (Create d n) g = if t.dirs d then created d n g (t.names (d, n)) else Refuse Estale
says t (Mkdir d n) g =
    if t.dirs d then made_dir (depth_of t d) d n g (t.names (d, n)) else Refuse Estale
says t (Unlink d n) g = if t.dirs d then unlinked d n (t.names (d, n)) else Refuse Estale
says t (Rmdir d n) g = if t.dirs d then removed t d n (t.names (d, n)) else Refuse Estale
says t (Heal d) g = if t.dirs d then Say Done else Refuse Estale

-- the answer of a call that does no step
abbrev pub answer_of : Said → Option Answer
answer_of (Refuse e) = Some (Fault e)
answer_of (Say a) = Some a
answer_of (Do steps a) = None

-- ---- what holds of every tree that steps which fit make of the first one

-- the name is one of these
abbrev pub lists : List ℕ → List (List ℕ) → Bool
lists n [] = false
lists n (x ∷ xs) = bytes_eq x n || lists n xs

-- a directory of the tree stands where it was made, if it is not the root
pub record IsPlaced (t : Tree) (g : Gfid) : Type 0 where
  pub descent : Descent
  pub is : t.descents g ≡ Some descent
  pub shallow : descent.depth ≤ deepest
  pub stands : (e : Entry) → descent.place ≡ Some e → t.names e ≡ Some (IsDir g)
  pub rooted : descent.place ≡ None → g ≡ root

-- a name that is a directory's is that at which it was made, one deeper than its own directory
pub record IsChild (t : Tree) (e : Entry) (g : Gfid) : Type 0 where
  pub dir : t.dirs g ≡ true
  pub descent : t.descents g ≡ Some (record { depth = depth_of t e.0 + 1; place = Some e })

-- a directory's listing has the names that stand in it; names stand in
-- directories; and what is told of the descents of directories is so
pub record IsTree (t : Tree) : Type 0 where
  pub listed : (e : Entry) → lists e.1 (t.listings e.0) ≡ is_some (t.names e)
  pub housed : (e : Entry) → is_some (t.names e) ≡ true → t.dirs e.0 ≡ true
  pub placed : (g : Gfid) → t.dirs g ≡ true → IsPlaced t g
  pub child : (e : Entry) (g : Gfid) → t.names e ≡ Some (IsDir g) → IsChild t e g
  pub rooted : (t.dirs root ≡ true) × (t.descents root ≡ Some of_root)
