-- How many bytes a presentation within the limits has at most.
use Prim.Native.Nat.{ℕ, ◌*◌, ◌≤◌}
use mathlib.Core.List.{List, [], ◌∷◌}
use native.Mathlib.Omega.{arith}
use lib.ListN.{length, length-append}
use Rattle.words.specs.Relations.{Relation}
use Rattle.format.specs.Bytes.{head_bytes, relation_bytes, relations_bytes, book_bytes, RelationWithin, AllWithin, none, more, BytesFew}

-- the bytes of one relation: its record's first four, its two lengths, and two words of at most 64 letters
relation_few : (letters : ℕ) (r : Relation) → RelationWithin letters r → length (relation_bytes r) ≤ 134
relation_few letters r w = omega (arith, length-append r.left r.right, w.left.short, w.right.short)

-- so of all of them
relations_few : (letters : ℕ) (rs : List Relation) → AllWithin letters rs → length (relations_bytes rs) ≤ 134 * length rs
unfolding relations_bytes
relations_few letters [] none = omega arith
relations_few letters (r ∷ rs) (more w a) =
    let f = relation_few letters r w in
    let g = relations_few letters rs a in
    omega (arith, length-append (relation_bytes r) (relations_bytes rs))

pub bytes_few : BytesFew
unfolding book_bytes
bytes_few presentation w =
    let f = relations_few presentation.letters presentation.relations w.all in
    omega (arith, length-append (head_bytes presentation.letters) (relations_bytes presentation.relations), w.few_relations)
