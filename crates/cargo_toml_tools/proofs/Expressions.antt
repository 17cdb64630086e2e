-- What is behind an expression, step by step.
use Rattle.std.proofs.Common.{◌≡◌, ◌∙◌, ◌+◌, ◌-◌, ◌<◌, ℕ, suc, ap, arith, None, Option, refl, Some, sym}
use Rattle.std.specs.Prelude.{option_and_then}
use Rattle.std.specs.Option.{option_or}
use Rattle.cargo_toml.specs.Action.{Text}
use Rattle.cargo_toml_tools.specs.Platforms.{past_expression, past_list, past_run, past_sign, past_word, word_at}
use Rattle.cargo_toml_tools.specs.declared.index.platform.Run.TheVariants.{Spaces}

-- an expression of some depth
pub one_deeper : (depth left : ℕ) (text : Text) → left ≡ depth - 1 → 0 < depth
    → option_and_then (past_word (past_expression left)) (word_at (past_run Spaces text)) ≡ past_expression depth text
unfolding past_expression
one_deeper depth left text e some = let d : depth ≡ suc left = omega arith in sym (ap (λ n. past_expression n text) d)

pub none_deep : (depth : ℕ) (text : Text) → depth ≡ 0 → None ≡ past_expression depth text
unfolding past_expression
none_deep depth text e = sym (ap (λ n. past_expression n text) e)

-- a list, of which a round is at hand
module _ (one : Text → Option Text) (n i : ℕ) (text : Text) (within : i < n) where
  abbrev past_one : Text → Option Text
  past_one rest = option_or (past_sign 41 rest) (option_and_then (past_list one (n - (i + 1))) (past_sign 44 rest))

  opened : past_list one (n - i) text ≡ option_or (past_sign 41 text) (option_and_then past_one (one text))
  opened = let e : n - i ≡ suc (n - (i + 1)) = omega arith in ap (λ k. past_list one k text) e

  pub ends_first : (end : Text) → Some end ≡ past_sign 41 text → Some end ≡ past_list one (n - i) text
  ends_first end closed = sym (opened ∙ ap (λ o. option_or o (option_and_then past_one (one text))) (sym closed))

  goes_on : None ≡ past_sign 41 text → (o : Option Text) → o ≡ one text → past_list one (n - i) text ≡ option_and_then past_one o
  goes_on more o is = opened ∙ ap (λ o. option_or o (option_and_then past_one (one text))) (sym more) ∙ ap (option_and_then past_one) (sym is)

  pub has_none : None ≡ past_sign 41 text → None ≡ one text → None ≡ past_list one (n - i) text
  has_none more is = sym (goes_on more None is)

  module _ (rest : Text) (more : None ≡ past_sign 41 text) (is : Some rest ≡ one text) where
    pub ends_behind : (end : Text) → Some end ≡ past_sign 41 rest → Some end ≡ past_list one (n - i) text
    ends_behind end closed = sym (goes_on more (Some rest) is ∙ ap (λ o. option_or o (option_and_then (past_list one (n - (i + 1))) (past_sign 44 rest))) (sym closed))

    after : None ≡ past_sign 41 rest → (o : Option Text) → o ≡ past_sign 44 rest → past_list one (n - i) text ≡ option_and_then (past_list one (n - (i + 1))) o
    after open_still o comma =
        goes_on more (Some rest) is ∙ ap (λ o. option_or o (option_and_then (past_list one (n - (i + 1))) (past_sign 44 rest))) (sym open_still)
        ∙ ap (option_and_then (past_list one (n - (i + 1)))) (sym comma)

    pub has_no_comma : None ≡ past_sign 41 rest → None ≡ past_sign 44 rest → None ≡ past_list one (n - i) text
    has_no_comma open_still comma = sym (after open_still None comma)

    pub has_next : (next : Text) → None ≡ past_sign 41 rest → Some next ≡ past_sign 44 rest → past_list one (n - (i + 1)) next ≡ past_list one (n - i) text
    has_next next open_still comma = sym (after open_still (Some next) comma)

-- and where none is left
pub is_done : (one : Text → Option Text) (n i : ℕ) (text : Text) → n ≡ i → None ≡ past_list one (n - i) text
is_done one n i text e = let z : n - i ≡ 0 = omega arith in sym (ap (λ k. past_list one k text) z)
