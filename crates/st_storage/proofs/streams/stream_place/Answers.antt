use Rattle.std.proofs.Common.{arith}
use Rattle.st_frames.proofs.Doing.{rows}
use Rattle.st_model.specs.Storage.{stream_place, place_of_object, place_of_character}
use Rattle.st_storage.proofs.streams.stream_place.Goals as goal

pub returns-in_err-fixed-in-Objects-clause-does : goal.returns-in_err-fixed-in-Objects-clause-does
unfolding stream_place place_of_object place_of_character
returns-in_err-fixed-in-Objects-clause-does g c = grind (arith, rows)

pub returns-in_ok-fixed-in-Objects-clause-does : goal.returns-in_ok-fixed-in-Objects-clause-does
unfolding stream_place place_of_object place_of_character
returns-in_ok-fixed-in-Objects-clause-does g c = grind (arith, rows)

pub returns-in_err-check_bytes-in-Characters-clause-does : goal.returns-in_err-check_bytes-in-Characters-clause-does
unfolding stream_place place_of_object place_of_character
returns-in_err-check_bytes-in-Characters-clause-does g c = grind (arith, rows)

pub returns-in_err-place-in-Characters-clause-does : goal.returns-in_err-place-in-Characters-clause-does
unfolding stream_place place_of_object place_of_character
returns-in_err-place-in-Characters-clause-does g c = grind (arith, rows)

pub returns-in_err-fetch_character-in-Characters-clause-does : goal.returns-in_err-fetch_character-in-Characters-clause-does
unfolding stream_place place_of_object place_of_character
returns-in_err-fetch_character-in-Characters-clause-does g c = grind (arith, rows)

pub returns-in_ok-fetch_character-in-Characters-clause-does : goal.returns-in_ok-fetch_character-in-Characters-clause-does
unfolding stream_place place_of_object place_of_character
returns-in_ok-fetch_character-in-Characters-clause-does g c = grind (arith, rows)
