use Rattle.std.proofs.Common.{◌∙◌, sym, ap, subst, ◌/◌, length}
use Rattle.std.specs.Simd.{first_chunks}
use Rattle.std.proofs.lemmas.List.Elements.{recursion_from_All, All-from_recursion}
use Rattle.std.specs.List.{All}
use Rattle.block_store.specs.Range.{bytes_of}
use Rattle.block_store.specs.Unit.{IsUnit}
use Rattle.block_store.proofs.Cuts.{bytes_of_chunks, chunks_of_units, length-first_chunks, chunks_are_units, length-bytes_of, count_is}
use Rattle.block_store.proofs.laws.units_are_their_bytes.Goals as goal

pub returns-clause-bytes : goal.returns-clause-bytes
returns-clause-bytes c = λ bytes count long. ap (λ n. bytes_of (first_chunks 512 n bytes)) (count_is bytes count long) ∙ bytes_of_chunks count bytes long

pub returns-clause-units : goal.returns-clause-units
returns-clause-units c = λ units whole.
    let all = recursion_from_All IsUnit units whole in
    let count = count_is (bytes_of units) (length units) (length-bytes_of units all) in
    ap (λ n. first_chunks 512 n (bytes_of units)) count ∙ chunks_of_units units all

pub returns-clause-whole : goal.returns-clause-whole
returns-clause-whole c = λ bytes count long.
    subst (λ n. All IsUnit (first_chunks 512 n bytes)) (sym (count_is bytes count long))
    (All-from_recursion IsUnit (first_chunks 512 count bytes) (chunks_are_units count bytes long))

pub returns-clause-count : goal.returns-clause-count
returns-clause-count c = λ bytes count long. length-first_chunks (length bytes / 512) bytes ∙ count_is bytes count long
