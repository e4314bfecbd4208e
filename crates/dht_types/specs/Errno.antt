-- The numbers and the words of errors.
use Rattle.std.specs.Prelude.{ℕ, List, codes}
use Rattle.dht_types.specs.declared.errors.Errno.{Errno}
use Rattle.dht_types.specs.declared.errors.Errno.TheVariants.{Enoent, Enomem, Eexist, Einval, Enametoolong, Enotdir, Eisdir, Enotempty, Estale, Enotconn, Eio}

abbrev pub errno_number : Errno → ℕ
errno_number Enoent = 2
errno_number Enomem = 12
errno_number Eexist = 17
errno_number Einval = 22
errno_number Enametoolong = 36
errno_number Enotdir = 20
errno_number Eisdir = 21
errno_number Enotempty = 39
errno_number Estale = 116
errno_number Enotconn = 107
errno_number Eio = 5

abbrev pub errno_word : Errno → List ℕ
errno_word Enoent = codes "enoent"
errno_word Enomem = codes "enomem"
errno_word Eexist = codes "eexist"
errno_word Einval = codes "einval"
errno_word Enametoolong = codes "enametoolong"
errno_word Enotdir = codes "enotdir"
errno_word Eisdir = codes "eisdir"
errno_word Enotempty = codes "enotempty"
errno_word Estale = codes "estale"
errno_word Enotconn = codes "enotconn"
errno_word Eio = codes "eio"
