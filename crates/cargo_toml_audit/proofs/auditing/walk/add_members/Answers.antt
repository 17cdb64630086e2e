use Rattle.cargo_toml_audit.proofs.Cited.{Global, List, Option, String, ap, base_of, contains_text, err_from_is_err_and, excluded_by, from_input, inl, inr, is_at, is_in, list_any, map, nat_cmp, option_to_list, refl, slice_cmp, string_bytes, ◌++◌, ◌∙◌}
use Rattle.cargo_toml_audit.proofs.Walking.{none_left, walking_begun, walking_ends, walking_on}
use Rattle.cargo_toml_audit.proofs.auditing.walk.add_members.Goals as goal

pub loop-place-init : goal.loop-place-init
loop-place-init g c = (
  walking_begun (base_of c.args.root) (map string_bytes c.args.first.items) _ _ refl
      (λ t. ap (list_any (is_at (λ k. slice_cmp nat_cmp t (string_bytes k)))) c.new.ensures.empty)
      (λ t. ap (list_any (is_at (λ k. slice_cmp nat_cmp t (string_bytes k)))) c.new-2.ensures.empty),
  refl,
)

pub loop-place-preserved : goal.loop-place-preserved
loop-place-preserved g c =
    let place = string_bytes c.in-Some.place in
    let paths = c.in_ok-exclusion in
    let asked = c.as_str-in-Some in
    let excluded = excluded_by (map string_bytes paths.exclusion.excluded.items) (map string_bytes paths.exclusion.members.items) asked.result.now in (
      walking_on (base_of c.args.root) (map string_bytes c.args.first.items) c.in-Some.place excluded c.contains-is_listed.result asked.result.now c.pop.new.self
          c.loop-place.walk c.visit.new.walk c.args.audit.now c.loop-place.audit c.visit.new.audit
          (c.pop.ensures.items ∙ ap (λ (o : Option (String Global)). c.pop.new.self.items ++ option_to_list o) c.in-Some.is)
          (λ i. excluded_by (paths.ensures.excluded i) (paths.ensures.members i) (asked.ensures.value i))
          (c.contains-is_listed.ensures ∙ ap (contains_text c.in_ok-listed.listed) c.as_str.ensures.value ∙ c.in_ok-listed.ensures place
          ∙ ap (λ (xs : List (String Global)). is_in (map string_bytes xs) place) c.as_slice.ensures.value)
          asked.ensures.value c.in_ok-visit.ensures.visited c.loop-place.invariant.0,
      c.loop-place.invariant.1,
    )

pub returns-in_err-show_progress-clause-refused : goal.returns-in_err-show_progress-clause-refused
returns-in_err-show_progress-clause-refused g c =
    let left = c.from_residual-in_err-show_progress in
    let p = err_from_is_err_and left.result left.ensures.1 in
    rw p.1 (elim (from_input _ p.0 p.2) [ inl memory ↦ inl (inl memory) | inr input ↦ inl (inr (inl input)) ])

pub returns-in_err-end_progress-clause-refused : goal.returns-in_err-end_progress-clause-refused
returns-in_err-end_progress-clause-refused g c =
    let left = c.from_residual-in_err-end_progress in
    let p = err_from_is_err_and left.result left.ensures.1 in
    rw p.1 (elim (from_input _ p.0 p.2) [ inl memory ↦ inl (inl memory) | inr input ↦ inl (inr (inl input)) ])

pub returns-clause-walked : goal.returns-clause-walked
returns-clause-walked g c =
    walking_ends (base_of c.args.root) (map string_bytes c.args.first.items) c.loop-place.walk c.args.audit.now c.loop-place.audit
    (none_left c.loop-place.walk.waiting.items c.pop.new.self.items c.pop.result _ _ c.pop.ensures.items c.pop.ensures.rest c.pop.ensures.cases c.in_default.not-Some)
    c.loop-place.invariant.0

pub returns-in_err-visit-clause-refused : goal.returns-in_err-visit-clause-refused
returns-in_err-visit-clause-refused g c =
    let left = c.from_residual-in_err-visit in
    let p = err_from_is_err_and left.result left.ensures.1 in
    rw (p.1, p.2) c.in_err-visit.ensures.refused
