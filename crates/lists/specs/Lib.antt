-- What the contracts of src/ cite, and what the crates above say their lists by, in reading order.
pub mod Sizes  -- the limits
pub mod Refusals  -- the number of a refusal
pub mod Answers  -- what a call answers, and what it leaves in a lent list
pub mod Ends  -- how a call that fills lists ends
pub mod Totals  -- sums of whole numbers
pub mod Flags  -- yes and no as numbers
pub mod Build  -- lists by a rule, folds, steps in order
pub mod Parts  -- parts of a list
pub mod Frames  -- states' items at their frames, selected and filled back
pub mod Bytes  -- numbers and their bytes
pub mod Firsts  -- the first of a list's numbers that is a given one
