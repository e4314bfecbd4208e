-- The requests that take no memory.
use Rattle.dht_brick.specs.declared.requests.NameRequest.{NameRequest}
use Rattle.dht_brick.specs.declared.requests.NameRequest.TheVariants.{DropLinkto, Uncontest, DropStandLink, Swap, PromoteLink}
use Rattle.dht_brick.specs.declared.requests.FileRequest.{FileRequest}
use Rattle.dht_brick.specs.declared.requests.FileRequest.TheVariants.{Unmark, ClearDirty, Demote, Promote, Drop}
use Rattle.dht_brick.specs.declared.requests.Request.{Request}
use Rattle.dht_brick.specs.declared.requests.Request.TheVariants.{Unlock, Unregister, OnNames, OnFile}

-- on every brick
abbrev pub NeverTakesMemory : Request → Type 0
NeverTakesMemory (Unlock key) = Unit {0}
NeverTakesMemory (Unregister f call) = Unit {0}
NeverTakesMemory q = ⊥

-- about names, on a brick in memory: a linkto, a mark or a readied name
-- goes, and a name is swapped or becomes the file's that it was readied for
abbrev pub NameTakesNoMemory : NameRequest → Type 0
NameTakesNoMemory (DropLinkto d n) = Unit {0}
NameTakesNoMemory (Uncontest d n f) = Unit {0}
NameTakesNoMemory (DropStandLink d n f) = Unit {0}
NameTakesNoMemory (Swap d n f value) = Unit {0}
NameTakesNoMemory (PromoteLink d n f) = Unit {0}
NameTakesNoMemory q = ⊥

-- about files, on a brick in memory: a file is moved no longer, is given up or
-- becomes the one of its copy, a copy is clean, and a file without links goes
abbrev pub FileTakesNoMemory : FileRequest → Type 0
FileTakesNoMemory (Unmark f) = Unit {0}
FileTakesNoMemory (ClearDirty f) = Unit {0}
FileTakesNoMemory (Demote f d n) = Unit {0}
FileTakesNoMemory (Promote f hop) = Unit {0}
FileTakesNoMemory (Drop f) = Unit {0}
FileTakesNoMemory q = ⊥

-- on a brick in memory
abbrev pub TakesNoMemory : Request → Type 0
TakesNoMemory (OnNames q) = NameTakesNoMemory q
TakesNoMemory (OnFile q) = FileTakesNoMemory q
TakesNoMemory q = NeverTakesMemory q
