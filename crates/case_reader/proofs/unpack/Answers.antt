-- `case_reader::unpack` meets its contract: each turn writes the number that comes next.
use Rattle.std.proofs.Common.{ℕ, ◌/◌, ◌<◌, ◌≡◌, ◌∙◌, sym, ap, zero-add, List, length, get_or, arith}
use Rattle.std.proofs.lemmas.List.{length-map}
use Rattle.arith.specs.Lists.{range}
use Rattle.arith.specs.Laws.Members.{length-range, get_d-table}
use Rattle.arith.specs.Laws.Overwriting.{over-element}
use Rattle.case_reader.specs.Cases.{word_at, words_of}
use Rattle.case_reader.proofs.unpack.Goals as goal

length-words : (payload : List ℕ) → length (words_of payload) ≡ length payload / 4
unfolding words_of
length-words payload = length-map (range 0 (length payload / 4)) (word_at payload) ∙ length-range 0 (length payload / 4)

word-at : (payload : List ℕ) (i : ℕ) → i < length payload / 4 → get_or (words_of payload) i 0 ≡ word_at payload i
unfolding words_of
word-at payload i l = get_d-table (word_at payload) 0 (length payload / 4) i 0 l ∙ ap (word_at payload) (zero-add i)

pub loop-i-preserved : goal.loop-i-preserved
loop-i-preserved c =
    let l = c.loop-i in
    let payload : List ℕ = c.args.payload.now in
    let below : l.i < length payload / 4 = omega arith in
    over-element (words_of payload) _ l.rows _ (length-words payload) l.i _ l.invariant below (omega arith) (c.word.ensures ∙ sym (word-at payload l.i below))
