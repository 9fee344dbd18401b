-- Laws of writing at a place: a number, a character, and lines of several texts.
use Prim.Native.Nat.{ℕ, ◌+◌, ◌/◌, ◌%◌, ◌^◌, ◌≤◌, ◌<◌}
use mathlib.Core.List.{List, [], ◌∷◌, ◌++◌}
use mathlib.Core.Path.{◌≡◌, refl, ap, ◌∙◌, subst}
use native.Mathlib.Omega.{arith}
use borrow.Author.Rules.{rules}
use lib.ListN.{length, set, length-append, length-set}
use Rattle.words.specs.Writing.{written}
use Rattle.writing.proofs.Writing.{written_one, written_behind}
use Rattle.spelling.specs.Decimal.{digits_of, decimal}
use Rattle.spelling.specs.Lines.{numbered, line_of, pair_line_of}
use Rattle.spelling.proofs.Decimal.{count_small, count_more}
use Rattle.std.specs.Fmt.{decimal as text_of}
use Rattle.std.proofs.lemmas.Fmt.{decimal_by_steps}
use Rattle.lines.specs.Lines.{WrittenTo}

-- the library's text of a number is its decimal
pub spelled : (n : ℕ) → n < 2 ^ 64 → text_of n ≡ decimal n
unfolding decimal digits_of
spelled n h = decimal_by_steps (λ m ds. ds ≡ decimal m) one more n h
  where
    one : (m : ℕ) → m < 10 → (48 + m) ∷ [] ≡ decimal m
    one m l = let e : m % 10 ≡ m = omega arith in rw (count_small m l, e)

    more : (m : ℕ) (ds : List ℕ) → 10 ≤ m → ds ≡ decimal (m / 10) → ds ++ ((48 + m % 10) ∷ []) ≡ decimal m
    more m ds l e = rw (count_more m l, e)

-- a number's text is written
module _ (out : List ℕ) (at n : ℕ) (s : List ℕ) (f : n < 2 ^ 64) (e : s ≡ text_of n) where
  pub number_fits : at + length (decimal n) ≤ length out → at + length s ≤ length out
  number_fits h = rw (e, spelled n f) h

  pub number_written : (b : List ℕ) (r : ℕ) → WrittenTo out at s b r → WrittenTo out at (decimal n) b r
  number_written b r w = subst (λ (t : List ℕ). WrittenTo out at t b r) (e ∙ spelled n f) w

-- one character
pub character_put : (out : List ℕ) (at c : ℕ) → at + 1 ≤ length out → WrittenTo out at (c ∷ []) (set out at c) (at + 1)
character_put out at c h =
    record { behind = refl; same = written_one at c out (omega arith); kept = length-set out at c }

-- a text and then another behind it are one text
pub put_both : (out : List ℕ) (at : ℕ) (s a : List ℕ) (r : ℕ) (t b : List ℕ) (q : ℕ) → at + length (s ++ t) ≤ length out → WrittenTo out at s a r → WrittenTo a r t b q → WrittenTo out at (s ++ t) b q
put_both out at s a r t b q h f g =
    let l = length-append s t in
    record {
      behind = omega (arith, f.behind, g.behind);
      same = g.same ∙ ap (written r t) f.same ∙ written_behind at s t out r f.behind (omega arith);
      kept = g.kept ∙ f.kept;
    }

-- there is room for the first text, and behind it for the second
pub room_first : (out : List ℕ) (at : ℕ) (s t : List ℕ) → at + length (s ++ t) ≤ length out → at + length s ≤ length out
room_first out at s t h = omega (arith, length-append s t)

pub room_second : (out : List ℕ) (at : ℕ) (s a : List ℕ) (r : ℕ) (t : List ℕ) → at + length (s ++ t) ≤ length out → WrittenTo out at s a r → r + length t ≤ length a
room_second out at s a r t h f = omega (arith, length-append s t, f.behind, f.kept)

-- a space and a number
module _ (out : List ℕ) (at n : ℕ) (h : at + length (numbered n) ≤ length out) where
  pub number_space : at + 1 ≤ length out
  unfolding numbered
  number_space = omega arith

  module _ (a : List ℕ) (r : ℕ) (f : WrittenTo out at (32 ∷ []) a r) where
    pub number_room : r + length (decimal n) ≤ length a
    unfolding numbered
    number_room = room_second out at (32 ∷ []) a r (decimal n) h f

    pub number_put : (b : List ℕ) (q : ℕ) → WrittenTo a r (decimal n) b q → WrittenTo out at (numbered n) b q
    unfolding numbered
    number_put b q g = put_both out at (32 ∷ []) a r (decimal n) b q h f g

pub ruleset numbers = (number_space, number_room, number_put, rules)

-- a line of a word and a number
module _ (out : List ℕ) (at : ℕ) (word : List ℕ) (n : ℕ) (h : at + length (line_of word n) ≤ length out) where
  pub line_word : at + length word ≤ length out
  unfolding line_of
  line_word = room_first out at word (numbered n ++ (10 ∷ [])) h

  module _ (a : List ℕ) (r : ℕ) (f : WrittenTo out at word a r) where
    line_rest : r + length (numbered n ++ (10 ∷ [])) ≤ length a
    unfolding line_of
    line_rest = room_second out at word a r (numbered n ++ (10 ∷ [])) h f

    pub line_number : r + length (numbered n) ≤ length a
    line_number = room_first a r (numbered n) (10 ∷ []) line_rest

    module _ (b : List ℕ) (q : ℕ) (g : WrittenTo a r (numbered n) b q) where
      pub line_newline : q + 1 ≤ length b
      line_newline = room_second a r (numbered n) b q (10 ∷ []) line_rest g

      pub line_put : (c : List ℕ) (e : ℕ) → WrittenTo b q (10 ∷ []) c e → WrittenTo out at (line_of word n) c e
      unfolding line_of
      line_put c e k = put_both out at word a r (numbered n ++ (10 ∷ [])) c e h f (put_both a r (numbered n) b q (10 ∷ []) c e line_rest g k)

pub ruleset lines = (line_word, line_number, line_newline, line_put, rules)

-- a line of a word and two numbers
module _ (out : List ℕ) (at : ℕ) (word : List ℕ) (n m : ℕ) (h : at + length (pair_line_of word n m) ≤ length out) where
  pub pair_word : at + length word ≤ length out
  unfolding pair_line_of
  pair_word = room_first out at word (numbered n ++ (numbered m ++ (10 ∷ []))) h

  module _ (a : List ℕ) (r : ℕ) (f : WrittenTo out at word a r) where
    pair_rest : r + length (numbered n ++ (numbered m ++ (10 ∷ []))) ≤ length a
    unfolding pair_line_of
    pair_rest = room_second out at word a r (numbered n ++ (numbered m ++ (10 ∷ []))) h f

    pub pair_first : r + length (numbered n) ≤ length a
    pair_first = room_first a r (numbered n) (numbered m ++ (10 ∷ [])) pair_rest

    module _ (b : List ℕ) (q : ℕ) (g : WrittenTo a r (numbered n) b q) where
      pair_rest_2 : q + length (numbered m ++ (10 ∷ [])) ≤ length b
      pair_rest_2 = room_second a r (numbered n) b q (numbered m ++ (10 ∷ [])) pair_rest g

      pub pair_second : q + length (numbered m) ≤ length b
      pair_second = room_first b q (numbered m) (10 ∷ []) pair_rest_2

      module _ (c : List ℕ) (e : ℕ) (k : WrittenTo b q (numbered m) c e) where
        pub pair_newline : e + 1 ≤ length c
        pair_newline = room_second b q (numbered m) c e (10 ∷ []) pair_rest_2 k

        pub pair_put : (d : List ℕ) (o : ℕ) → WrittenTo c e (10 ∷ []) d o → WrittenTo out at (pair_line_of word n m) d o
        unfolding pair_line_of
        pair_put d o l =
            put_both out at word a r (numbered n ++ (numbered m ++ (10 ∷ []))) d o h f
            (put_both a r (numbered n) b q (numbered m ++ (10 ∷ [])) d o pair_rest g
            (put_both b q (numbered m) c e (10 ∷ []) d o pair_rest_2 k l))

pub ruleset characters = (character_put, rules)

pub ruleset pairs = (pair_word, pair_first, pair_second, pair_newline, pair_put, rules)
