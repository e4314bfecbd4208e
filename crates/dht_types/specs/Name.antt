-- Which bytes are a name of a file or a directory.
use Rattle.std.specs.Prelude.{ℕ, ◌≤◌, ◌<◌, ◌≢◌, ◌==◌, Bool, ◌||◌, if◌then◌else◌, nat_lt, Option, Some, None, List, length, codes}
use Rattle.std.specs.List.{Contains, list_any}
use Rattle.std.specs.Str.{bytes_eq}
use Rattle.dht_types.specs.declared.errors.Errno.{Errno}
use Rattle.dht_types.specs.declared.errors.Errno.TheVariants.{Einval, Enametoolong}

-- a name: 1 to 255 bytes, not `.` nor `..`, with no `/` and no zero byte
pub record IsName (bytes : List ℕ) : Type 0 where
  pub positive : 0 < length bytes
  pub short : length bytes ≤ 255
  pub not_here : bytes ≢ codes "."
  pub not_above : bytes ≢ codes ".."
  pub no_slash : ¬ Contains bytes 47
  pub no_zero : ¬ Contains bytes 0

-- a byte that no name has: `/` and zero
abbrev pub is_forbidden : ℕ → Bool
is_forbidden byte = (byte == 47) || (byte == 0)

-- the directory itself, or the one above
abbrev pub is_dots : List ℕ → Bool
is_dots bytes = bytes_eq bytes (codes ".") || bytes_eq bytes (codes "..")

-- the bytes are none, `.` or `..`, or one of them is forbidden
abbrev pub is_invalid : List ℕ → Bool
is_invalid bytes = (length bytes == 0) || is_dots bytes || list_any is_forbidden bytes

-- why the bytes are no name; of the two reasons EINVAL is the first
abbrev pub refusal_of : List ℕ → Option Errno
refusal_of bytes =
    if is_invalid bytes then Some Einval
    else if nat_lt 255 (length bytes) then Some Enametoolong
    else None
