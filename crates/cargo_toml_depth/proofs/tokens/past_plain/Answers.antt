use Rattle.std.proofs.Common.{arith}
use Rattle.std.proofs.lemmas.Bool.Decides.{nat_tests}
use Rattle.toml_parser.proofs.LexicalLemmas.{IsCharBoundary-ascii_run}
use Rattle.cargo_toml_depth.specs.Places.{is_plain}
use Rattle.cargo_toml_depth.proofs.Turns.{past_plain}
use Rattle.cargo_toml_depth.proofs.tokens.past_plain.Goals as goal

pub range_from-requires : goal.range_from-requires
range_from-requires c _ =
    rw (c.plain_len-count.ensures, c.as_bytes.ensures.value)
    (IsCharBoundary-ascii_run is_plain c.args.text.now c.utf8.text (λ b e. grind (arith, nat_tests)))

pub returns : goal.returns
returns c n p = let run = past_plain n p c.args.text.now in cc
