-- The web page of a trace.
use Rattle.std.specs.Prelude.{ℕ, List, [], ◌∷◌, ◌++◌}
use Rattle.hex.specs.Hex.{encode_lower}
use Rattle.bus_webpage.specs.declared.heads.TheConstants.{HEAD, TITLE, BODY, MAIN, COLUMNS}
use Rattle.bus_webpage.specs.declared.heads.TheConstants.{BETWEEN, BEHIND, END}
use Rattle.bus_webpage.specs.declared.styles.TheConstants.{STYLES}
use Rattle.bus_webpage.specs.declared.reading.TheConstants.{READING}
use Rattle.bus_webpage.specs.declared.meaning.TheConstants.{MEANING}
use Rattle.bus_webpage.specs.declared.views.TheConstants.{VIEWS}
use Rattle.bus_webpage.specs.declared.moving.TheConstants.{MOVING}
use Rattle.bus_webpage.specs.declared.play_heads.TheConstants.{PLAY_TITLE, PLAY_STYLES, TURNS}
use Rattle.bus_webpage.specs.declared.play_heads.TheConstants.{GAME, FIRST_HEAD, INTERPRETER_HEAD}
use Rattle.bus_webpage.specs.declared.interpreter.TheConstants.{INTERPRETER}
use Rattle.bus_webpage.specs.declared.openings.TheConstants.{FIRST_SCRIPT, OPENINGS}
use Rattle.bus_webpage.specs.declared.playing.TheConstants.{PLAYING}
use Rattle.bus_webpage.specs.declared.webpages.Purpose.{Purpose}
use Rattle.bus_webpage.specs.declared.webpages.Purpose.TheVariants.{Step, Play}

-- the script of a page: the one that is given; but where one plays and none is given, the first
-- opening
abbrev pub script_of : Purpose → List ℕ → List ℕ
script_of Step given = given
script_of Play [] = FIRST_SCRIPT.now
script_of Play (byte ∷ given) = byte ∷ given

-- the head of a page on which one plays
abbrev pub play_head : List ℕ
play_head = HEAD.now ++ PLAY_TITLE.now ++ STYLES.now ++ PLAY_STYLES.now

-- what stands before the bytes of the script
abbrev pub opening : Purpose → List ℕ
opening Step = HEAD.now ++ TITLE.now ++ STYLES.now ++ BODY.now ++ MAIN.now ++ COLUMNS.now
opening Play = play_head ++ BODY.now ++ TURNS.now ++ MAIN.now ++ GAME.now ++ COLUMNS.now

-- the page's own script, up to where it begins
abbrev pub own_script : List ℕ
own_script = BEHIND.now ++ READING.now ++ MEANING.now ++ VIEWS.now ++ MOVING.now

-- the first opening, and the interpreter
abbrev pub interpreter : List ℕ
interpreter = FIRST_HEAD.now ++ FIRST_SCRIPT.now ++ INTERPRETER_HEAD.now ++ INTERPRETER.now

-- what stands behind the rows
abbrev pub closing : Purpose → List ℕ
closing Step = own_script ++ END.now
closing Play = interpreter ++ own_script ++ OPENINGS.now ++ PLAYING.now ++ END.now

-- the web page of a script and of its trace: the script's bytes as hexadecimal digits, and the
-- trace as it is
abbrev pub webpage : (purpose : Purpose) (script trace : List ℕ) → List ℕ
webpage purpose script trace =
    opening purpose ++ encode_lower script ++ BETWEEN.now ++ trace ++ closing purpose
