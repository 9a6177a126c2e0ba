-- An empty text is no number, and another is read where it begins with a space and its words are numerals.
use Rattle.std.proofs.Common.{[], ◌∷◌, vec_items, Some, None, sym, subst, rules, tests}
use Rattle.std.specs.List.{AllZip}
use Rattle.std.proofs.lemmas.Bool.{eqb-false}
use Rattle.std.proofs.lemmas.Bool.Decides.{Decides-eqb}
use Rattle.std.proofs.lemmas.Iterator.Consumers.{YieldsList-at, YieldsList-end, YieldsList-turn}
use Rattle.std.proofs.lemmas.Iterator.Splits.{YieldsList-from_slice_split}
use Rattle.std.proofs.lemmas.List.{map_push}
use Rattle.std.proofs.lemmas.Slice.Eq.{strip_prefix_is}
use Rattle.text.specs.Rows.{Row, Numeral, capped}
use Rattle.text.proofs.Cuts.{is_space, row_is, words_more, no_word, no_row}
use Rattle.text.proofs.rows.numbers.Goals as goal

pub returns-in_default : goal.returns-in_default
returns-in_default c = no_row (λ n. n) capped c.args.text.now (eqb-false _ _ (sym c.if-is_empty.ensures)) (strip_prefix_is Decides-eqb c.args.text.now (32 ∷ []) None c.in_default.ensures.cases)

pub returns-in_default-numeral : goal.returns-in_default-numeral
returns-in_default-numeral c =
    let turn = YieldsList-turn
    (YieldsList-at c.into_iter-word-iterator.ensures.into_iter_gives
    (YieldsList-from_slice_split _ is_space c.in-Some.words.now c.split-word-items.ensures.rest c.split-word-items.ensures.done c.split-word-items.ensures.closure (λ x b q k. search (rules, tests))))
    c.loop-word.yielded _ c.loop-word.yielded_by _ _ _ c.in-Some-word.is c.next.ensures.steps in
    let spaced = strip_prefix_is Decides-eqb c.args.text.now (32 ∷ []) (Some c.in-Some.words) c.in-Some.ensures.cases in
    no_word (λ n. n) capped c.args.text.now c.in-Some.words.now _ c.in-Some-word.word.now spaced turn.0 turn.1 c.in_default-numeral.ensures

pub loop-word-preserved : goal.loop-word-preserved
loop-word-preserved c =
    subst (λ ws. AllZip (Numeral capped) ws (vec_items c.push.new.self)) (sym (map_push (λ w. w.now) c.loop-word.yielded c.in-Some-word.word))
    (subst (AllZip (Numeral capped) _) (sym c.in_ok-push.ensures.items) (words_more (λ n. n) capped _ _ _ _ c.loop-word.invariant c.in-Some-numeral.ensures))

pub returns : goal.returns
returns c =
    let seen = YieldsList-end
    (YieldsList-at c.into_iter-word-iterator.ensures.into_iter_gives
    (YieldsList-from_slice_split _ is_space c.in-Some.words.now c.split-word-items.ensures.rest c.split-word-items.ensures.done c.split-word-items.ensures.closure (λ x b q k. search (rules, tests))))
    c.loop-word.yielded _ c.loop-word.yielded_by _ _ c.in-None.is c.next.ensures.steps in
    let spaced = strip_prefix_is Decides-eqb c.args.text.now (32 ∷ []) (Some c.in-Some.words) c.in-Some.ensures.cases in
    subst (λ t. Row capped t (vec_items c.loop-word.row)) (sym spaced) (row_is (λ n. n) capped c.in-Some.words.now _ (subst (λ ws. AllZip (Numeral capped) ws (vec_items c.loop-word.row)) seen.0 c.loop-word.invariant))
