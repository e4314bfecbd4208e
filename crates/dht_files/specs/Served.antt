-- What a request does that the table lets through.
use Rattle.std.specs.FinMap.{get}
use Rattle.dht_brick.specs.Contents.{Tables, Files, store_of}
use Rattle.dht_brick.specs.FileRows.{record_row}
use Rattle.dht_brick.specs.Named.{file_of}
use Rattle.dht_brick.specs.Outcome.{Serves}
use Rattle.dht_brick.specs.declared.replies.Reply.{Reply}
use Rattle.dht_brick.specs.declared.requests.FileRequest.{FileRequest}

-- the reply is that of the request's row, and so are the tables and file records afterwards
abbrev pub CarriesOut : FileRequest → Tables → Files → Reply → Tables → Files → Type 0
CarriesOut q t files r t2 files2 =
    Serves (record_row t.bricks q (store_of t files) (get files (file_of q))) (store_of t files) r
    (store_of t2 files2)

-- whatever the tables are: they are neither asked nor changed
abbrev pub CarriesOutAlone : FileRequest → Files → Reply → Files → Type 0
CarriesOutAlone q files r files2 = (t : Tables) → CarriesOut q t files r t files2
