-- The first row that fits, by how u, v and p begin with the parts of the text in which relation words lie.
-- That this is `first_row` of the rows' definition is shown in proofs/Shapes.antt.
use Rattle.std.specs.Prelude.{ℕ, ◌-◌, ◌<◌, Bool, true, false, cond, ◌||◌, List, ◌≡◌, eqb, leb, drop}
use Rattle.words.specs.Words.{Word, is_empty, is_prefix, part}
use Rattle.overlap.specs.Cuts.{xy_of}
use Rattle.congruence.specs.Rows.{clean_relation_prefix, primed_word, first_row}
use Rattle.layout.specs.Layout.{words_in}
use Rattle.layout.specs.Families.{family_at, family_by, GroupedWord}
use Rattle.sites.specs.declared.Site.{Site}
use Rattle.sites.specs.Sites.{site_of}
use Rattle.kin.specs.Asked.{two_at_most}
use Rattle.rows.specs.declared.Found.{Found}

-- the row from row 4 on by whether u begins with all of its relation word (`whole`), v with all of its member (`all`), and these two are the same
unfoldable pub row_by : Bool → Bool → Bool → ℕ
row_by whole all same = cond whole (cond all 4 (cond same 5 7)) (cond same 5 (cond all 6 8))

-- Z of the relation word at s follows in w behind as many letters as its X and Y have
abbrev pub tail_follows : List ℕ → Site → Word → Bool
tail_follows text s w = is_prefix (part text s.tail s.stop) (drop (s.tail - s.start) w)

-- the same row by the words, where u begins with X and Y of the relation word at s and v with those of the member at t
unfoldable pub shaped_row : List ℕ → Site → Site → Bool → Word → Word → ℕ
shaped_row text s t same u v = row_by (tail_follows text s u) (tail_follows text t v) same

-- relation word j where it is one and of i's family, else n
unfoldable pub kin_or_none : List ℕ → ℕ → ℕ → ℕ → ℕ
kin_or_none table n i j = cond (leb n j) n (cond (eqb (family_at table i) (family_at table j)) j n)

-- relation word i, whose family has two members or i alone, and a word that does not begin with its X and Y
pub record OneLeft (text table : List ℕ) (n : ℕ) (w : Word) (i : ℕ) : Type 0 where
  pub word : GroupedWord text table n i
  pub two : two_at_most table n i ≡ true
  pub unlike : is_prefix (xy_of (words_in text table n) i) w ≡ false

-- relation word i is the clean relation prefix of u, and u and v are not empty
pub record CleanWord (text table : List ℕ) (n : ℕ) (u v : Word) (i : ℕ) : Type 0 where
  pub word : GroupedWord text table n i
  pub some : (is_empty u || is_empty v) ≡ false
  pub clean : i ≡ clean_relation_prefix (words_in text table n) u

-- what is found: the first row that fits, from row 3 on the relation word of u and where it lies, and from row 4 on where the member lies that v begins with
pub record FoundRow (text table : List ℕ) (n : ℕ) (u v p : Word) (f : Found) : Type 0 where
  pub number : f.row ≡ first_row (words_in text table n) (family_by table n) u v p
  pub word : 2 < f.row → f.word ≡ clean_relation_prefix (words_in text table n) u
  pub own : 2 < f.row → f.own ≡ site_of table (clean_relation_prefix (words_in text table n) u)
  pub member : 3 < f.row → f.member ≡ site_of table (primed_word (words_in text table n) (family_by table n) u v)
