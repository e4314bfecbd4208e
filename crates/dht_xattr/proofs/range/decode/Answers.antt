use Rattle.std.proofs.Common.{ℕ, ◌<◌, slice_index, arith}
use Rattle.dht_xattr.proofs.RangeLaws.{encoded_decoded, encoded_parts, read_number}
use Rattle.dht_xattr.proofs.range.decode.Goals as goal
use Rattle.dht_xattr.proofs.range.decode.Goals.{else-hash_type-eq-HASH_TYPE-via-then-hash_type-eq-HASH_TYPE+else-first-last, else-hash_type-eq-HASH_TYPE-via-else-hash_type-eq-HASH_TYPE}

pub returns-then-first-last-clause-some : goal.returns-then-first-last-clause-some
returns-then-first-last-clause-some c =
    let value = c.args.value.now in
    let bytes : (i : ℕ) → slice_index value i < 256 = λ i. let byte = c.type_inv.value i in omega arith in
    let kind = read_number 4 value in
    let first = read_number 8 value in
    let last = read_number 12 value in
    encoded_decoded value (record { commit = c.read_u32-commit.result; first = c.read_u32-first.result; last = c.read_u32-last.result })
    (omega arith) bytes (omega arith) (omega arith) (omega arith) (omega arith)

pub returns-else-hash_type-eq-HASH_TYPE-clause-none :
    goal.returns-else-hash_type-eq-HASH_TYPE-clause-none
returns-else-hash_type-eq-HASH_TYPE-clause-none c = λ r good same.
    let value = c.args.value.now in
    let (size, no_type, at_first, at_last) = encoded_parts value r good same in
    let ordered = good.ordered in
    let kind = read_number 4 value in
    let first = read_number 8 value in
    let last = read_number 12 value in
    elim c.else-hash_type-eq-HASH_TYPE.branch [
      | else-hash_type-eq-HASH_TYPE-via-then-hash_type-eq-HASH_TYPE+else-first-last w ↦ omega arith
      | else-hash_type-eq-HASH_TYPE-via-else-hash_type-eq-HASH_TYPE w ↦ omega arith
    ]
