use Rattle.std.proofs.Common.{◌≡◌, ◌<◌, ◌==◌, ◌&&◌, false, length, slice_index, rules, arith}
use Rattle.std.proofs.lemmas.Grind.{common_steps}
use Rattle.std.proofs.lemmas.Bool.Decides.{nat_tests}
use Rattle.toml_parser.specs.Lexical.{first}
use Rattle.toml_parser.proofs.LexicalLemmas.{within_from_byte}
use Rattle.cargo_toml_depth.proofs.Turns.{past_literal_at}
use Rattle.cargo_toml_depth.proofs.tokens.after_literal.Goals.{else-byte_at-delim-via-then-byte_at-delim+else-byte_at-delim-2, else-byte_at-delim-via-else-byte_at-delim}
use Rattle.cargo_toml_depth.proofs.tokens.after_literal.Goals as goal

pub returns-then-byte_at-delim-3 : goal.returns-then-byte_at-delim-3
returns-then-byte_at-delim-3 c =
    let text = c.args.text.now in
    let some : 0 < length text = within_from_byte text 0 (grind (arith, nat_tests)) in
    let single : (slice_index text 1 == first text && slice_index text 2 == first text) ≡ false = elim c.else-byte_at-delim.branch [
      | else-byte_at-delim-via-then-byte_at-delim+else-byte_at-delim-2 w ↦ grind (arith, nat_tests, common_steps)
      | else-byte_at-delim-via-else-byte_at-delim w ↦ grind (arith, nat_tests, common_steps)
    ] in
    past_literal_at text c.skip-inner.result.now c.skip.result.now c.content_len-count.result some single
    (search rules) (grind (arith, common_steps)) (grind (arith, nat_tests, common_steps)) (search rules)
