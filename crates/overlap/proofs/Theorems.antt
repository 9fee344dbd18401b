-- The statements of specs/Theorems.antt, put together.
use Prim.Native.Nat.{ℕ, ◌≤◌}
use mathlib.Core.List.{List}
use mathlib.Core.Logic.{by_cases, ◌↔◌}
use native.Mathlib.Omega.{arith}
use native.Mathlib.Decide.{dec_lt}
use Rattle.words.specs.Words.{Word}
use Rattle.words.specs.Families.{distinct_words}
use Rattle.overlap.specs.Pieces.{word, SmallOverlap}
use Rattle.overlap.specs.Counts.{no_product, number, piece_count, NumbersAtLeast}
use Rattle.overlap.specs.Theorems.{TestsPieces, WordsTested, VerdictsRight, AcceptsC4, CountsFewest, NumbersDecide, NumbersSmall, LoneLetters, CutsMaximal, CutsGood, PiecesClosed}
use Rattle.overlap.proofs.Agree.{piece_at_iff_segment_piece, is_piece_iff_piece, piece_shorter, loose_iff_few_pieces}
use Rattle.overlap.proofs.Counts.{count_fewest, count_iff_fewest, count_short, number_iff_no_fewer, number_below, number_iff_none, none_iff_lone}
use Rattle.overlap.proofs.Maximal.{x_maximal, z_maximal, cut_whole, y_has_letters, y_is_no_piece, xy_occurs_once, piece_prefix_in_x}
use Rattle.overlap.proofs.Occurrences.{factor_of_piece, piece_of_more}
use Rattle.overlap.proofs.Verdicts.{judge_iff_right, judge_accepts_iff_c4}

pub tests_pieces : TestsPieces
tests_pieces = piece_at_iff_segment_piece

pub words_tested : WordsTested
words_tested = record { tests = is_piece_iff_piece; shorter = piece_shorter }

pub verdicts_right : VerdictsRight
verdicts_right = judge_iff_right

pub accepts_c4 : AcceptsC4
accepts_c4 = judge_accepts_iff_c4

pub counts_fewest : CountsFewest
counts_fewest = count_iff_fewest

pub numbers_decide : NumbersDecide
numbers_decide =
    record {
      overlap = overlap;
      accepts = λ sides. (
        λ e. (overlap (distinct_words sides) 4 (omega arith)).0 ((judge_accepts_iff_c4 sides).0 e),
        λ a. (judge_accepts_iff_c4 sides).1 ((overlap (distinct_words sides) 4 (omega arith)).1 a),
      );
      searched = λ B i h. (
        λ e.
            let (n, l, p) = (loose_iff_few_pieces B i h).0 e in
            by_cases (dec_lt (number (piece_count B i)) 4) (λ a. a) (λ a.
            absurd ((number_iff_no_fewer B (word B i) (piece_count B i) 4 (omega arith) (count_fewest B i h)).0 (omega arith) n l p)),
        λ l.
            (loose_iff_few_pieces B i h).1 (number_below B (word B i) (piece_count B i) 4 (omega arith) (count_fewest B i h) l),
      );
    }
  where
    overlap : (B : List Word) (m : ℕ) → m ≤ no_product → SmallOverlap m B ↔ NumbersAtLeast m B
    overlap B m l = (
      λ c i h. (number_iff_no_fewer B (word B i) (piece_count B i) m l (count_fewest B i h)).1 (λ n a p. c i n h a p),
      λ a i n h b p. (number_iff_no_fewer B (word B i) (piece_count B i) m l (count_fewest B i h)).0 (a i h) n b p,
    )

pub numbers_small : NumbersSmall
numbers_small =
    record {
      short = λ B i n h e. count_short B i n e;
      alone = λ B i h l. number_iff_none B (word B i) (piece_count B i) (λ n e. let s = count_short B i n e in omega arith) (count_fewest B i h);
    }

pub lone_letters : LoneLetters
lone_letters = none_iff_lone

pub cuts_maximal : CutsMaximal
cuts_maximal B i h = (x_maximal B i h, z_maximal B i h)

pub cuts_good : CutsGood
cuts_good B c i h =
    record {
      whole = cut_whole B c i h;
      some = y_has_letters B c i h;
      middle = y_is_no_piece B c i h;
      once = λ j p o. xy_occurs_once B c i j p h o;
      prefixes = λ a f p. piece_prefix_in_x B i a h f p;
    }

pub pieces_closed : PiecesClosed
pieces_closed = record { factors = factor_of_piece; more = piece_of_more }
