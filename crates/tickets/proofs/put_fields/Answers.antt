use mathlib.Core.Path.{refl}
use Rattle.tickets.proofs.Laws.{fields_whole}
use Rattle.tickets.proofs.put_fields.Goals as goal

-- the law is applied to what the calls ensure: much stands before the return, and a search for it takes long
pub returns : goal.returns
returns c =
    fields_whole _ _ _ _ c.requires _ _ _ _ _ _ refl c.put_field.ensures refl c.put_field-2.ensures refl c.put_field-3.ensures
