-- What the listing program prints (document 01, Worked files). Assumes nothing.
use Rattle.std.specs.Prelude.{ℕ, List, length, ltb}
use Rattle.numbers.specs.Choice.{pick}
use Rattle.text.specs.Text.{file_text, unread_text}

-- the listing of the input; for input over 65,536 bytes, the one line `unread`
unfoldable pub printed : List ℕ → List ℕ
printed s = pick (ltb 65536 (length s)) unread_text (file_text s)
