-- What loading a book gives: reading (refusals 1 to 6), then 8 over the whole book (document 01, "Refusals by number").
use Rattle.std.specs.Prelude.{ℕ, List}
use Rattle.words.specs.Relations.{relation_words}
use Rattle.overlap.specs.Verdict.{Verdict, judge}
use Rattle.refusals.specs.declared.Refusal.TheVariants.{Loose}
use Rattle.format.specs.Book.{Presentation, BookReading, read, refused, read_book}

-- 8, by the verdict on the sides
abbrev pub by_verdict : Presentation → Verdict → BookReading
by_verdict presentation Verdict.accepted = read presentation
by_verdict presentation (Verdict.loose side) = refused (Loose side)

abbrev pub by_reading : BookReading → BookReading
by_reading (BookReading.read presentation) = by_verdict presentation (judge (relation_words presentation.relations))
by_reading (BookReading.refused r) = refused r

-- the presentation of an accepted book's bytes, or the refusal
unfoldable pub load_book : List ℕ → BookReading
load_book book = by_reading (read_book book)
