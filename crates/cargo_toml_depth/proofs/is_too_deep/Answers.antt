use Rattle.std.proofs.Common.{◌≡◌, ◌==◌, rules, arith, sym, ◌∙◌, ◌-◌, true, false, Some, None}
use Rattle.std.proofs.lemmas.Grind.{common_steps}
use Rattle.std.proofs.lemmas.Bool.Decides.{nat_tests}
use Rattle.cargo_toml_depth.specs.Places.{place_of}
use Rattle.cargo_toml_depth.specs.Nesting.{after_string, enter, first, header, is_beyond, pass}
use Rattle.cargo_toml_depth.proofs.Turns.{IsNear, no_string, past_string, past_comment, no_header, deep_header, past_header, stops, deep_byte, past_byte, at_end}
use Rattle.cargo_toml_depth.proofs.is_too_deep.Goals as goal

pub returns-then-left-count : goal.returns-then-left-count
returns-then-left-count c =
    let l = c.tokens in
    let run = c.past_plain-count.ensures l.left (place_of l.place) in
    let none : l.left - c.past_plain-count.result.0 ≡ 0 = omega arith in
    record { depth = sym (l.invariant.1 ∙ run ∙ rw none (at_end (place_of l.place) c.past_plain-count.result.1.now)) }

pub returns-in_default : goal.returns-in_default
returns-in_default c =
    let l = c.tokens in
    let text = c.past_plain-count.result.1.now in
    let run = c.past_plain-count.ensures l.left (place_of l.place) in
    let ends : after_string text ≡ None = search rules in
    record { depth = sym (l.invariant.1 ∙ run ∙ no_string (l.left - c.past_plain-count.result.0) (place_of l.place) text (search rules) ends) }

pub returns-in_default-2 : goal.returns-in_default-2
returns-in_default-2 c =
    let l = c.tokens in
    let text = c.past_plain-count.result.1.now in
    let run = c.past_plain-count.ensures l.left (place_of l.place) in
    let near : IsNear (place_of l.place) text true = record { other = search rules; plain = grind (arith, nat_tests, common_steps); at = grind (arith, nat_tests, common_steps) } in
    let none : header text ≡ None = search rules in
    record { depth = sym (l.invariant.1 ∙ run ∙ no_header (l.left - c.past_plain-count.result.0) (place_of l.place) text near none) }

pub returns-then-not-enter : goal.returns-then-not-enter
returns-then-not-enter c =
    let l = c.tokens in
    let text = c.past_plain-count.result.1.now in
    let run = c.past_plain-count.ensures l.left (place_of l.place) in
    let near : IsNear (place_of l.place) text true = record { other = search rules; plain = grind (arith, nat_tests, common_steps); at = grind (arith, nat_tests, common_steps) } in
    let h = c.in-Some-2.header in
    let read : header text ≡ Some (h.parts, h.is_of_array, c.in-Some-2.after.now) = search rules in
    let deep : enter h.parts h.is_of_array (place_of l.place) ≡ None = grind (arith, nat_tests, common_steps) in
    record { depth = sym (l.invariant.1 ∙ run ∙ deep_header (l.left - c.past_plain-count.result.0) (place_of l.place) text h.parts h.is_of_array c.in-Some-2.after.now (omega arith) near read deep) }

pub returns-then-is_beyond : goal.returns-then-is_beyond
returns-then-is_beyond c =
    let l = c.tokens in
    let text = c.past_plain-count.result.1.now in
    let run = c.past_plain-count.ensures l.left (place_of l.place) in
    let near : IsNear (place_of l.place) text false = record { other = search rules; plain = grind (arith, nat_tests, common_steps); at = grind (arith, nat_tests, common_steps) } in
    let ends : is_beyond (first text) ≡ true = search rules in
    record { depth = sym (l.invariant.1 ∙ run ∙ stops (l.left - c.past_plain-count.result.0) (place_of l.place) text near ends) }

pub returns-else-branch : goal.returns-else-branch
returns-else-branch c =
    let l = c.tokens in
    let text = c.past_plain-count.result.1.now in
    let run = c.past_plain-count.ensures l.left (place_of l.place) in
    let near : IsNear (place_of l.place) text false = record { other = search rules; plain = grind (arith, nat_tests, common_steps); at = grind (arith, nat_tests, common_steps) } in
    let goes : is_beyond (first text) ≡ false = search rules in
    let deep : pass (first text) (place_of l.place) ≡ None = grind (arith, nat_tests, common_steps) in
    record { depth = sym (l.invariant.1 ∙ run ∙ deep_byte (l.left - c.past_plain-count.result.0) (place_of l.place) text (omega arith) near goes deep) }

pub tokens-preserved-then-starts_string : goal.tokens-preserved-then-starts_string
tokens-preserved-then-starts_string c =
    let l = c.tokens in
    let text = c.past_plain-count.result.1.now in
    let run = c.past_plain-count.ensures l.left (place_of l.place) in
    let ends : after_string text ≡ Some c.in-Some.after.now = search rules in
    (search rules, l.invariant.1 ∙ run ∙ past_string (l.left - c.past_plain-count.result.0) (place_of l.place) text c.in-Some.after.now (omega arith) (search rules) ends)

pub tokens-preserved-then-byte-eq35 : goal.tokens-preserved-then-byte-eq35
tokens-preserved-then-byte-eq35 c =
    let l = c.tokens in
    let text = c.past_plain-count.result.1.now in
    let run = c.past_plain-count.ensures l.left (place_of l.place) in
    let begins : (first text == 35) ≡ true = grind (arith, nat_tests, common_steps) in (
      search rules,
      rw (c.end_line.ensures, c.skip_blank-rest.ensures.rest)
          (l.invariant.1 ∙ run ∙ past_comment (l.left - c.past_plain-count.result.0) (place_of l.place) text (omega arith) (search rules) begins),
    )

pub tokens-preserved-then-is_at_header : goal.tokens-preserved-then-is_at_header
tokens-preserved-then-is_at_header c =
    let l = c.tokens in
    let text = c.past_plain-count.result.1.now in
    let run = c.past_plain-count.ensures l.left (place_of l.place) in
    let near : IsNear (place_of l.place) text true = record { other = search rules; plain = grind (arith, nat_tests, common_steps); at = grind (arith, nat_tests, common_steps) } in
    let h = c.in-Some-2.header in
    let read : header text ≡ Some (h.parts, h.is_of_array, c.in-Some-2.after.now) = search rules in
    let fits : enter h.parts h.is_of_array (place_of l.place) ≡ Some (place_of c.enter.new.self) = grind (arith, nat_tests, common_steps) in (
      search rules,
      l.invariant.1 ∙ run
          ∙ past_header (l.left - c.past_plain-count.result.0) (place_of l.place) (place_of c.enter.new.self) text h.parts h.is_of_array c.in-Some-2.after.now (omega arith) near read fits,
    )

pub tokens-preserved : goal.tokens-preserved
tokens-preserved c =
    let l = c.tokens in
    let text = c.past_plain-count.result.1.now in
    let run = c.past_plain-count.ensures l.left (place_of l.place) in
    let near : IsNear (place_of l.place) text false = record { other = search rules; plain = grind (arith, nat_tests, common_steps); at = grind (arith, nat_tests, common_steps) } in
    let goes : is_beyond (first text) ≡ false = search rules in
    let fits : pass (first text) (place_of l.place) ≡ Some (place_of c.pass.new.self) = grind (arith, nat_tests, common_steps) in (
      search rules,
      rw c.skip-rest.ensures.rest
          (l.invariant.1 ∙ run ∙ past_byte (l.left - c.past_plain-count.result.0) (place_of l.place) (place_of c.pass.new.self) text (omega arith) near goes fits),
    )
