-- Which shape of a name, and of a file's records, each request takes to which. One line a request;
-- nothing else knows the requests one by one.
use Rattle.std.specs.Prelude.{ℕ, Bool, true, false, ◌+◌, ◌≡◌, ◌≢◌, ◌⊎◌, nat_eq, if◌then◌else◌, List, []}
use Rattle.dht_types.specs.Gfid.{home}
use Rattle.dht_types.specs.declared.identifiers.Gfid.{Gfid}
use Rattle.dht_types.specs.declared.identifiers.BrickNo.{BrickNo}
use Rattle.dht_types.specs.declared.stored.StandbyRecord.{StandbyRecord}
use Rattle.dht_brick.specs.declared.requests.NameRequest.{NameRequest}
use Rattle.dht_brick.specs.declared.requests.NameRequest.TheVariants.{MakeDir, DropDir, Create, MakeLinkto, DropLinkto, Unlink, Link, LinkOver, Contest, Uncontest, StandLink, DropStandLink, Swap, PromoteLink}
use Rattle.dht_brick.specs.declared.requests.FileRequest.{FileRequest}
use Rattle.dht_brick.specs.declared.requests.FileRequest.TheVariants as file
use Rattle.dht_section.specs.Shapes.{NameShape, Bare, Folder, Plain, Marked, Contested, Standing, Copied, Committed, FileShape, Gone, Live, Moving, Copying, Moved}

-- a set of bricks with one more, or one less
abbrev pub set_on : (ℕ → Bool) → ℕ → Bool → ℕ → Bool
set_on on b v i = if nat_eq i b then v else on i

abbrev pub no_brick : ℕ → Bool
no_brick i = false

-- a request at brick b takes its name from one shape to the next
abbrev pub Takes : NameRequest → ℕ → NameShape → NameShape → Type 0
Takes (MakeDir d n g depth value) b h k =
    ((h ≡ Bare) × (b ≡ home g) × (k ≡ Folder g (set_on no_brick b true)))
    ⊎ ((on : ℕ → Bool) × (h ≡ Folder g on) × (k ≡ Folder g (set_on on b true)))
Takes (DropDir d n g) b h k = (on : ℕ → Bool) × (h ≡ Folder g on)
    × (((b ≡ home g) × (k ≡ Bare) × ((i : ℕ) → i ≢ b → on i ≡ false))
    ⊎ ((b ≢ home g) × (k ≡ Folder g (set_on on b false))))
Takes (Create d n f) b h k = (h ≡ Bare) × (k ≡ Plain b f)
Takes (Unlink d n f) b h k = (h ≡ Plain b f) × (k ≡ Bare)
Takes (Link d n f) b h k = (h ≡ Bare) × (k ≡ Plain b f)
Takes (LinkOver d n f old) b h k = (h ≡ Plain b old) × (k ≡ Plain b f)
Takes (Contest d n f x) b h k = (h ≡ Plain b f) × (x.0 ≢ b) × (k ≡ Marked b f x)
Takes (Uncontest d n f) b h k = (x : BrickNo) × (h ≡ Marked b f x) × (k ≡ Plain b f)
Takes (StandLink d n g) b h k =
    (a : ℕ) × (f : Gfid) × (h ≡ Marked a f (record { 0 = b }))
    × (k ≡ Contested a f (record { 0 = b }) g)
Takes (DropStandLink d n g) b h k =
    (a : ℕ) × (f : Gfid) × (h ≡ Contested a f (record { 0 = b }) g)
    × (k ≡ Marked a f (record { 0 = b }))
Takes (Swap d n f value) b h k =
    (x : BrickNo) × (g : Gfid) × (h ≡ Contested b f x g) × (k ≡ Standing x.0 g)
Takes (PromoteLink d n g) b h k = (h ≡ Standing b g) × (k ≡ Plain b g)
Takes (MakeLinkto d n value) b h k = k ≡ h
Takes (DropLinkto d n) b h k = k ≡ h
Takes q b h k = ⊥

-- a copy that is made again: one of the same hop, source and name stands already
abbrev pub IsAgain : FileShape → ℕ → ℕ → ℕ → List ℕ → StandbyRecord → Type 0
IsAgain h source hop b x c =
    (old : StandbyRecord) × (h ≡ Copying source hop (record { 0 = b }) x old)
    × (c ≡ record old { is_dirty = false; bytes = [] })

-- a request at brick b takes a file's records from
-- one shape to the next, and the name that it changes
abbrev pub TakesFile : FileRequest → ℕ → FileShape → FileShape → NameShape → NameShape → Type 0
TakesFile (file.Mark f t) b h k n m =
    (hop : ℕ) × (x : List ℕ) × (h ≡ Live b hop x) × (k ≡ Moving b hop t x) × (t.0 ≢ b)
    × (n ≡ Plain b f) × (m ≡ n)
TakesFile (file.Unmark f) b h k n m =
    (hop : ℕ) × (t : BrickNo) × (x : List ℕ) × (h ≡ Moving b hop t x) × (k ≡ Live b hop x)
    × (n ≡ Plain b f) × (m ≡ n)
TakesFile (file.MakeStandby f d e source hop) b h k n m =
    (old : ℕ) × (x : List ℕ) × (c : StandbyRecord)
    × (hop ≡ old + 1)
    × (c ≡ record { hop = hop; source = source; is_dirty = false; dir = d; name = e; bytes = [] })
    × (k ≡ Copying source.0 old (record { 0 = b }) x c) × (m ≡ Copied source.0 f b)
    × ((h ≡ Moving source.0 old (record { 0 = b }) x) × (n ≡ Plain source.0 f)
    ⊎ (IsAgain h source.0 old b x c) × (n ≡ m))
TakesFile (file.DropStandby f) b h k n m = (a : ℕ) × (hop : ℕ) × (x : List ℕ) × (c : StandbyRecord)
    × (h ≡ Copying a hop (record { 0 = b }) x c) × (k ≡ Moving a hop (record { 0 = b }) x)
    × (n ≡ Copied a f b) × (m ≡ Plain a f)
TakesFile (file.Demote f d e) b h k n m =
    (hop : ℕ) × (t : BrickNo) × (x : List ℕ) × (c : StandbyRecord)
    × (h ≡ Copying b hop t x c) × (c.is_dirty ≡ false) × (c.bytes ≡ x) × (k ≡ Moved t.0 c)
    × (n ≡ Copied b f t.0) × (m ≡ Committed t.0 f)
TakesFile (file.Promote f hop) b h k n m =
    (c : StandbyRecord) × (h ≡ Moved b c) × (k ≡ Live b c.hop c.bytes) × (n ≡ Committed b f)
    × (m ≡ Plain b f)
TakesFile (file.Drop f) b h k n m =
    (hop : ℕ) × (x : List ℕ) × (h ≡ Live b hop x) × (k ≡ Gone) × (m ≡ n)
TakesFile q b h k n m = ⊥
