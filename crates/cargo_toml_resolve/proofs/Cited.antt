-- The names that proofs of this crate cite of definitions and of other libraries. Declares nothing.
pub use Rattle.cargo_toml_features.proofs.ByPlace.{among_at, lower_place, once, rises}
pub use Rattle.cargo_toml_features.specs.InOrder.{AreInOrder, AreTable, HaveNoEnablers, feature_at, names_of, resolution_among, table_among}
pub use Rattle.cargo_toml_features.specs.Marks.{NamedDetails, details_listed, marked, marks_in, marks_of, named_details}
pub use Rattle.cargo_toml_features.specs.Recorded.{Entry, entries_at, recorded_of}
pub use Rattle.cargo_toml_features.specs.Resolved.{Answer, IsAnswer, IsAnswerWithout, SameRecorded, table_of}
pub use Rattle.cargo_toml_features.specs.Views.{action_at, action_of, answer_of, entry_of, listed_of, recorded_in, resolution_of, set_has, value_at}
pub use Rattle.cargo_toml_graph.proofs.BinLists.{among-either, among-first, among-second, among-true, is_among-true, put_puts}
pub use Rattle.cargo_toml_graph.proofs.InByteOrder.{alike_itself, ascending_last, ascending_once, last_passes, passed_all_alike, passed_has}
pub use Rattle.cargo_toml_graph.proofs.JoinLaws.{join_option_assoc, join_option_none, join_option_self}
pub use Rattle.cargo_toml_graph.proofs.Joins.{join_alike, join_halves, join_one}
pub use Rattle.cargo_toml_graph.proofs.Members.{label_within, reaches_within, resolved_alike}
pub use Rattle.cargo_toml_graph.proofs.SortedTexts.{first_below, none_ascend, others_ascend, texts_ascend}
pub use Rattle.cargo_toml_graph.specs.Action.{Action, IsJoin, Text, join_option}
pub use Rattle.cargo_toml_graph.specs.Graph.{Edge, IsEnabledBy, IsKept, IsPlain, IsResolved, IsUnremoved, KeepsName, ReachesThrough, Resolution, Says, Table}
pub use Rattle.cargo_toml_graph.specs.Kept.{KeepsEnabling, LosesNothing, NoneIsLeft}
pub use Rattle.cargo_toml_graph.specs.Reach.{Among, Gathers, GathersLabel, Reaches}
pub use Rattle.cargo_toml_graph.specs.Removal.{SameKept, is_removed, lists_text, pass_all, put_each, unremoved, without_all}
pub use Rattle.cargo_toml_resolve.specs.Enabling.{AreSameButEnablers, EnablesThrough, GainEnabler, Leader, LeaderBelow, LeadsTo, LearnBy, LearnEach}
pub use Rattle.cargo_toml_resolve.specs.Filter.{Answers, Asked, FilterTells, HasNameFilter, IsFlagOf, IsHiddenName}
pub use Rattle.cargo_toml_resolve.specs.Holding.{AllTakeOver, ComesToHold, DoesAt, HasTextsOf, HaveOwnSets, IsTextOf, TakesOver}
pub use Rattle.cargo_toml_resolve.specs.KeptFeatures.{AreKept, AreKeptBy, ArePassedAt, IsKeptFeature, StandFor, own_bins}
pub use Rattle.cargo_toml_resolve.specs.NumberedTables.{HasNumber, IsNaming, IsNumbered}
pub use Rattle.cargo_toml_resolve.specs.Numbering.{AreRead, AreTextsOf, Extends, Gains, HasNames, IsFlagged, IsNodeOf, IsTarget}
pub use Rattle.cargo_toml_resolve.specs.Numbers.{AreMarked, FindsNamed, FindsRedirects, HasLabel, IsPassed, IsRedirect, IsUnder, IsWanted, KeepsLabel, Leads, Moves, PassesAny, Replaces, row_items}
pub use Rattle.cargo_toml_resolve.specs.Parts.{AreAlikeIn, LeadsAt, Said, but_bins, but_deeds, but_enablers, deeds_of, place_action, place_deeds, place_enabler, place_names, said_of, with_said}
pub use Rattle.cargo_toml_resolve.specs.Passing.{AreKnown, AreSameButBins, Knows, MayKnow, Puts, bins_of, passed_below, passed_from}
pub use Rattle.cargo_toml_resolve.specs.Placed.{AreHashed, ArePlaced, HasThose, Shows}
pub use Rattle.cargo_toml_resolve.specs.Removed.{AgreesWithAll, IsAnswerBy, IsRemovedBy}
pub use Rattle.std.proofs.Common.{Bool, Bor, Err, Global, IfOk, IfSome, IsFalse, IsSome, IsTrue, List, None, Ok, OnOk, Option, Result, Some, Vec, [], ap, arith, below_more, bytes_eq, codes, cond, drop, eq-eqb, eqb-true, false, get_or, hash_map_len, if◌then◌else◌, inl, inr, is_some, length, length-append, length-set, map}
pub use Rattle.std.proofs.Common.{nat_eq, not, option_map, refl, replicate, rules, set, slice_get, subst, suc, sym, take, take_all, tests, true, unwrap_or, zero, ℕ, ◌&&◌, ◌++◌, ◌+◌, ◌<◌, ◌||◌, ◌↔◌, ◌∙◌, ◌∷◌, ◌≡◌, ◌≢◌, ◌≤◌, ◌⊎◌}
pub use Rattle.std.proofs.Math.Seq.{drop-cons, get_or-append_seam, map-set_same}
pub use Rattle.std.proofs.lemmas.Bool.{and_from, and_parts, cases_Bool, cases_eq, cases_lt, false_from_ne_true, false≢true, or_cases, or_left, or_right}
pub use Rattle.std.proofs.lemmas.List.{get_or-replicate, get_or-set_other, get_or-set_same, get_or-take, get_or_append_left, get_or_past, length-drop, length-map, length-replicate, length-take-le, map-set, map_more, map_push, nil_from_length, take-append-le, take-map, take-take, take_at, take_more}
pub use Rattle.std.proofs.lemmas.Option.{get_or_from_slice_get, same_Some, slice_get-get_or, slice_get-map, slice_get_cases, slice_get_past, slice_get_read, slice_get_within}
pub use Rattle.std.specs.BTreeMap.{BTreeMap, btree_map_len, is_at}
pub use Rattle.std.specs.Cmp.Lexicographic.{on_texts, on_texts_equal, slice_cmp}
pub use Rattle.std.specs.List.{find, list_any, slice_index_or, starts_with, zip}
pub use Rattle.std.specs.Option.{IsSomeAnd, option_copied, option_map_or, option_or}
pub use Rattle.cargo_toml_features.{proofs.ActionTexts.joined_at, proofs.Agreement.settled, proofs.Agreement.told_by_listed, proofs.Gathering.is_text_in, proofs.TextKeys.none_in, specs.FirstTarget.HasTarget, specs.OwnBins.bin_requirement, specs.OwnBins.own_of, specs.Places.nth_text, specs.Reached.IsKeyed, specs.Slots.held_among}
pub use Rattle.cargo_toml_features.{specs.declared.features.DepAction.DepAction, specs.declared.features.Feature.Feature, specs.declared.features.Features.Features}
pub use Rattle.cargo_toml_graph.{proofs.Closure.chained, proofs.Edges.unremoved_is, proofs.Elimination.all_taken_out, proofs.OneRemoval.target, proofs.PassedBins.grown_weaker, proofs.PassedBins.passed_alike, proofs.RedirectsInOrder.below_one_way, proofs.Texts.by_true, proofs.Texts.bytes_eq_sym, proofs.Unremoved.resolved_unremoved}
pub use Rattle.cargo_toml_graph.{specs.Admitted.Listed, specs.Admitted.is_below, specs.Ascending.Ascend, specs.Bins.ArePassedOn, specs.Reach.Reaches.edge, specs.Reach.Reaches.through, specs.Redirects.RedirectsTo}
pub use Rattle.cargo_toml_package.{specs.Details.plain_detail}
pub use Rattle.cargo_toml_resolve.{specs.Texts.texts_now, specs.declared.graph.Graph.Graph, specs.declared.graph.Walked.Walked}
pub use Rattle.std.{proofs.Math.Bool.or-false, proofs.Math.ListN.get_or-map, proofs.lemmas.Bool.Decides.nat_tests, proofs.lemmas.Grind.common_steps, proofs.lemmas.Iterator.YieldsList-from_slice, proofs.lemmas.Iterator.YieldsList-from_zip, proofs.lemmas.Iterator.Search.any_from_yields_List}
pub use Rattle.std.{proofs.lemmas.List.Folds.list_any-append, proofs.lemmas.List.Sums.sum_by-set, proofs.lemmas.Map.Iter.btree_map_turn, proofs.lemmas.Map.Iter.iter_end, proofs.lemmas.Map.Made.is_some-lookup, proofs.lemmas.Map.Text.is_eq-slice_cmp, proofs.lemmas.Map.Text.text_keys}
pub use Rattle.std.{proofs.lemmas.Map.Views.All-values_from_lookup, proofs.lemmas.Result.on_ok_weaker, proofs.lemmas.Simd.map-map, proofs.lemmas.Slice.Eq.bytes_eq-Decides, specs.BTreeSet.BTreeSet, specs.BTreeSet.btree_set_len, specs.HashMap.HashMap, specs.List.Sorted.IsStrictlySortedBy}
pub use Rattle.std.{specs.Map.lookup, specs.Map.Iter.deref_pair, specs.Ordering.nat_cmp}
