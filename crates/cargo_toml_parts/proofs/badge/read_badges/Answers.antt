use Rattle.std.proofs.Common.{◌≡◌, ◌∷◌, ◌++◌, [], ℕ, List, false, Option, option_and_then, option_map, ap, codes, refl, ◌∙◌}
use Rattle.toml.specs.Data.{Members, get_member}
use Rattle.toml.specs.View.{table_view}
use Rattle.cargo_toml_parts.specs.Reads.{is_among}
use Rattle.cargo_toml_parts.specs.Readings.{without}
use Rattle.cargo_toml_parts.proofs.Taken.{stays, without_both}
use Rattle.cargo_toml_parts.specs.declared.badge.Badge.{Badge}
use Rattle.cargo_toml_parts.specs.Badges.{badge_at, badge_meaning, badge_reads, maintenance_reads, or_none}
use Rattle.cargo_toml_parts.proofs.badge.read_badges.Goals as goal

-- what is left of the table
record AreLeft (gone : List (List ℕ)) (ms old : Members) : Type 0 where
  pub is : old ≡ without gone ms

-- one key more is taken; what any other gives stays
more : (gone : List (List ℕ)) (key : List ℕ) (ms old new : Members) → AreLeft gone ms old → new ≡ without (key ∷ []) old → AreLeft (gone ++ (key ∷ [])) ms new
more gone key ms old new left lost = record { is = lost ∙ ap (without (key ∷ [])) left.is ∙ without_both gone (key ∷ []) ms }

later : (gone : List (List ℕ)) (key : List ℕ) (ms old : Members) → AreLeft gone ms old → is_among gone key ≡ false → get_member key old ≡ get_member key ms
later gone key ms old left apart = ap (get_member key) left.is ∙ stays gone key ms apart

read_later : (gone : List (List ℕ)) (key : List ℕ) (ms old : Members) (x : Option Badge) → AreLeft gone ms old → is_among gone key ≡ false
    → option_map badge_meaning x ≡ option_and_then badge_reads (get_member key old) → option_map badge_meaning x ≡ badge_at key ms
read_later gone key ms old x left apart read = read ∙ ap (option_and_then badge_reads) (later gone key ms old left apart)

pub returns : goal.returns
returns c =
    let ms = table_view c.args.table in
    let appveyor : AreLeft (codes "appveyor" ∷ []) ms (table_view c.passing_over.new.rest) = record { is = c.passing_over.ensures.left } in
    let circle_ci-read = read_later _ (codes "circle-ci") ms _ c.in_ok-badges-2.field-0 appveyor refl c.in_ok-badges-2.ensures.value in
    let circle_ci = more _ (codes "circle-ci") ms _ _ appveyor c.passing_over-2.ensures.left in
    let gitlab-read = read_later _ (codes "gitlab") ms _ c.in_ok-badges-3.field-0 circle_ci refl c.in_ok-badges-3.ensures.value in
    let gitlab = more _ (codes "gitlab") ms _ _ circle_ci c.passing_over-3.ensures.left in
    let travis_ci-read = read_later _ (codes "travis-ci") ms _ c.in_ok-badges-4.field-0 gitlab refl c.in_ok-badges-4.ensures.value in
    let travis_ci = more _ (codes "travis-ci") ms _ _ gitlab c.passing_over-4.ensures.left in
    let codecov-read = read_later _ (codes "codecov") ms _ c.in_ok-badges-5.field-0 travis_ci refl c.in_ok-badges-5.ensures.value in
    let codecov = more _ (codes "codecov") ms _ _ travis_ci c.passing_over-5.ensures.left in
    let coveralls-read = read_later _ (codes "coveralls") ms _ c.in_ok-badges-6.field-0 codecov refl c.in_ok-badges-6.ensures.value in
    let coveralls = more _ (codes "coveralls") ms _ _ codecov c.passing_over-6.ensures.left in
    let is_it_maintained_issue_resolution-read = read_later _ (codes "is-it-maintained-issue-resolution") ms _ c.in_ok-badges-7.field-0 coveralls refl c.in_ok-badges-7.ensures.value in
    let is_it_maintained_issue_resolution = more _ (codes "is-it-maintained-issue-resolution") ms _ _ coveralls c.passing_over-7.ensures.left in
    let is_it_maintained_open_issues-read = read_later _ (codes "is-it-maintained-open-issues") ms _ c.in_ok-badges-8.field-0 is_it_maintained_issue_resolution refl c.in_ok-badges-8.ensures.value in
    let is_it_maintained_open_issues = more _ (codes "is-it-maintained-open-issues") ms _ _ is_it_maintained_issue_resolution c.passing_over-8.ensures.left in
    let maintenance = c.in_ok-badges-9.ensures ∙ ap (λ o. or_none (option_and_then maintenance_reads o)) (later _ (codes "maintenance") ms _ is_it_maintained_open_issues refl) in
    rw (c.in_ok-badges.ensures.value, circle_ci-read, gitlab-read, travis_ci-read, codecov-read, coveralls-read, is_it_maintained_issue_resolution-read, is_it_maintained_open_issues-read, maintenance) refl
