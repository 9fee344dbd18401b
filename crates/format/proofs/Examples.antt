-- The worked examples hold, by computation.
use mathlib.Core.Path.{refl}
use Rattle.words.specs.Letters.{first_unknown}
use Rattle.format.specs.Book.{record_at, head_at, fields_at, relation_at, relations_from, read_book}
use Rattle.format.specs.Examples.{Hold, none, more, examples, times}

pub examples_hold : Hold examples
unfolding record_at first_unknown head_at fields_at relation_at relations_from read_book examples times
examples_hold =
    more refl (more refl (more refl (more refl (more refl (more refl (more refl (more refl (more refl (more refl (more refl (more refl (more refl (more refl (more refl (more refl (more refl (more refl (more refl (more refl (more refl (more refl (more refl (more refl (more refl (more refl (more refl (more refl (more refl (more refl (more refl (more refl (more refl (more refl (more refl (more refl (more refl (more refl (more refl (none)))))))))))))))))))))))))))))))))))))))
